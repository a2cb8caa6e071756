-- Bytes that are escaped.
use Rattle.std.proofs.Common.{◌≡◌, ◌∙◌, ℕ, Bool, true, false, [], ◌∷◌, refl}
use Rattle.std.specs.Prelude.{◌==◌}
use Rattle.std.specs.List.{flat_map, list_any}
use Rattle.std.proofs.lemmas.List.Folds.{list_any-append}
use Rattle.keyed_reports.specs.Escapes.{HtmlIsTextLaw, html_byte, is_html_mark}

-- by which of the bytes it is
html_cases : (b : ℕ) (a l g q s : Bool) → (b == 38) ≡ a → (b == 60) ≡ l → (b == 62) ≡ g → (b == 34) ≡ q → (b == 39) ≡ s
    → list_any is_html_mark (html_byte b) ≡ false
html_cases b true l g q s ea el eg eq es = rw ea refl
html_cases b false true g q s ea el eg eq es = rw (ea, el) refl
html_cases b false false true q s ea el eg eq es = rw (ea, el, eg) refl
html_cases b false false false true s ea el eg eq es = rw (ea, el, eg, eq) refl
html_cases b false false false false true ea el eg eq es = rw (ea, el, eg, eq, es) refl
html_cases b false false false false false ea el eg eq es = rw (ea, el, eg, eq, es) (rw (el, eg, eq, es) refl)

pub html_is_text : HtmlIsTextLaw
html_is_text [] = refl
html_is_text (b ∷ bytes) =
    list_any-append is_html_mark (html_byte b) (flat_map html_byte bytes)
    ∙ rw (html_cases b (b == 38) (b == 60) (b == 62) (b == 34) (b == 39) refl refl refl refl refl, html_is_text bytes) refl
