use Rattle.command_callers.proofs.columns.begins_no_tag.Goals as goal

pub returns : goal.returns
returns c = c.law_html_is_text.ensures c.args.cell.now
