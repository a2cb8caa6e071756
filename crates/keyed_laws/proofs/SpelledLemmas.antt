-- A heading whose names each stand once, which is spelled as the columns are named.
use Rattle.std.proofs.Common.{◌≡◌, ◌∙◌, ℕ, Bool, true, false, List, [], ◌∷◌, ap, ap₂, nat_eq, refl, sym, subst, subst₂}
use Rattle.std.specs.Prelude.{◌&&◌, unwrap_or}
use Rattle.std.specs.Cmp.Lexicographic.{pointwise}
use Rattle.keyed_text.specs.Texts.{AreRows}
use Rattle.keyed_text.proofs.TextLemmas.{rows-once}
use Rattle.keyed_requests.specs.FormBytes.{comment_of, delimiter_of}
use Rattle.keyed_requests.specs.declared.request.Form.{Form}
use Rattle.keyed_columns.specs.Names.{repeats}
use Rattle.keyed_columns.specs.Placed.{names_headed, names_placed}
use Rattle.keyed_columns.specs.Spelled.{IsSpelledAs, SpelledBy, SpelledOf, spelled_as}
use Rattle.keyed_columns.specs.declared.columns.Columns.{Columns}
use Rattle.keyed_columns.specs.declared.content.Content.TheVariants.{Rows}
use Rattle.keyed_files.specs.Reading.{HeadedBy}
use Rattle.keyed_laws.proofs.ColumnsBackLemmas.{same_name}

first_too : (a b : Bool) → (a && b) ≡ true → a ≡ true
first_too true b e = refl
first_too false b e = absurd (cc e)

second_too : (a b : Bool) → (a && b) ≡ true → b ≡ true
second_too true b e = e
second_too false b e = absurd (cc e)

same_names : (names others : List (List ℕ)) → pointwise (pointwise nat_eq) names others ≡ true → names ≡ others
same_names [] [] e = refl
same_names [] (other ∷ others) e = absurd (cc e)
same_names (name ∷ names) [] e = absurd (cc e)
same_names (name ∷ names) (other ∷ others) e =
    ap₂ (λ n ns. n ∷ ns) (same_name name other (first_too _ _ e)) (same_names names others (second_too _ _ e))

spelled_if : (names spelled written : List (List ℕ)) (same : Bool) → pointwise (pointwise nat_eq) written names ≡ same → spelled ≡ names
    → unwrap_or (spelled_as names spelled written) written ≡ written
spelled_if names spelled written true e is = rw e (is ∙ sym (same_names written names e))
spelled_if names spelled written false e is = rw e refl

-- where a header spells the names by which its columns are told apart, the heading has the names that are written
pub spells-plainly : (names spelled : List (List ℕ)) (columns : Columns) → IsSpelledAs names spelled columns → spelled ≡ names → names_headed columns ≡ names_placed columns
spells-plainly names spelled columns is same =
    ap (λ m. unwrap_or m (names_placed columns)) is ∙ spelled_if names spelled (names_placed columns) _ refl same

said_alike : (records : List (List (List ℕ))) (header spelled : List (List ℕ)) → HeadedBy true Rows records header → SpelledBy true Rows records spelled
    → ((fields : List (List ℕ)) (rest : List (List (List ℕ))) → records ≡ fields ∷ rest → repeats [] fields ≡ false) → spelled ≡ header
said_alike [] header spelled headed said once = said ∙ sym headed
said_alike (fields ∷ rest) header spelled headed said once = said ∙ sym (headed (once fields rest refl))

-- and it does so where each name stands once
pub spelled-once : (form : Form) (text : List ℕ) (header spelled : List (List ℕ)) (records : List (List (List ℕ))) → form.has_header ≡ true
    → AreRows (delimiter_of form) (comment_of form) text records → HeadedBy form.has_header Rows records header → SpelledOf form Rows text spelled
    → ((fields : List (List ℕ)) (rest : List (List (List ℕ))) → records ≡ fields ∷ rest → repeats [] fields ≡ false) → spelled ≡ header
spelled-once form text header spelled records has are headed said once =
    let same : said.0 ≡ records = rows-once (delimiter_of form) (comment_of form) text said.0 records said.1 are in
    said_alike records header spelled (subst (λ b. HeadedBy b Rows records header) has headed)
    (subst₂ (λ b r. SpelledBy b Rows r spelled) has same said.2) once
