use Rattle.std.proofs.Common.{◌∙◌, [], inl, refl, sym}
use Rattle.keyed_columns.proofs.ColumnLemmas.{given-one}
use Rattle.keyed_columns.proofs.KeyLemmas.{doubled-none}
use Rattle.keyed_columns.proofs.key_record.no_name.Goals as goal

pub returns : goal.returns
returns c =
    given-one _ _ [] (c.in_ok-names.ensures.first ∙ c.in_ok-from_slices.ensures) (c.in_ok-names.ensures.others ∙ c.in_ok-from_slices.ensures) (inl (sym doubled-none, refl))
