use Rattle.std.proofs.Common.{◌∙◌, ap}
use Rattle.keyed_text.specs.Texts.{finished}
use Rattle.keyed_requests.specs.FormBytes.{delimiter_of}
use Rattle.keyed_files.specs.Writing.{quoted_first}
use Rattle.keyed_jobs.proofs.marks.write_marked.Goals as goal

pub returns : goal.returns
returns c =
    let form = c.args.job.now.form in
    c.in_ok-file.ensures
    ∙ ap (finished form.writing.style)
    (c.in_ok-given.ensures ∙ ap (quoted_first (delimiter_of form)) (c.in_ok-text-3.ensures _ (c.in_ok-text-2.ensures _ c.in_ok-text.ensures)).0)
