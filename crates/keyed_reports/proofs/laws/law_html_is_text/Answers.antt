use Rattle.keyed_reports.proofs.EscapeLemmas.{html_is_text}
use Rattle.keyed_reports.proofs.laws.law_html_is_text.Goals as goal

pub returns : goal.returns
returns c = html_is_text
