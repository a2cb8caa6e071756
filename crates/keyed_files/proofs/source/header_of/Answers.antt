use Rattle.std.proofs.Common.{◌≡◌, ◌∙◌, ◌-◌, ap, arith, length}
use Rattle.std.proofs.lemmas.Result.{IfOk-weaker}
use Rattle.csv.specs.Records.{fields_of}
use Rattle.keyed_columns.specs.Going.{names_coming, names_going}
use Rattle.keyed_columns.specs.Headers.{cells_before}
use Rattle.keyed_columns.proofs.HeaderLemmas.{gone-read, header-read, if-both, names-said, spelled-read}
use Rattle.keyed_columns.proofs.NumberLemmas.{header-counted}
use Rattle.keyed_files.proofs.source.header_of.Goals as goal

pub returns-then-form : goal.returns-then-form
returns-then-form c =
    let fields = fields_of c.args.row.now in
    record {
      names = IfOk-weaker c.of_record.result _ _
          (λ header said. header-read c.args.content c.args.form.has_header c.args.has_first fields header.names c.if-not-has_first.false c.if-form.true
          (names-said c.args.content c.cells_before-before.result fields header.names c.cells_before-before.ensures.value said)) c.of_record.ensures.names;
      spelled_names = c.of_record.ensures.spelled_names;
      spelled = IfOk-weaker c.of_record.result _ _
          (λ header said. spelled-read c.args.content c.args.form.has_header c.args.has_first c.cells_before-before.result fields header.spelling.spelled c.if-not-has_first.false c.if-form.true
          c.cells_before-before.ensures.value said) c.of_record.ensures.spelled;
      gone = λ changes. let one = c.cells_before-before.ensures.value ∙ ap cells_before changes in
          if-both c.of_record.result _ _ _ (λ header goes comes. gone-read c.args.has_first c.args.form.has_header fields header.gone header.came c.if-not-has_first.false c.if-form.true
          (goes ∙ ap (λ before. names_going before fields) one) (comes ∙ ap (λ before. names_coming before fields) one)) c.of_record.ensures.gone c.of_record.ensures.came;
    }

pub returns-else-form-clause-names : goal.returns-else-form-clause-names
returns-else-form-clause-names c =
    let fields = fields_of c.args.row.now in
    let count : c.saturating_sub.result ≡ length fields - c.cells_before-before.result = omega (arith, c.len.ensures, c.saturating_sub.ensures) in
    IfOk-weaker c.numbers.result _ _
    (λ header said. header-counted c.args.content c.args.form.has_header c.args.has_first fields header.names c.cells_before-before.result _
    c.if-not-has_first.false c.if-form.false c.cells_before-before.ensures.value count said) c.numbers.ensures.names
