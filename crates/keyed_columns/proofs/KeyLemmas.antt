-- The names that a text gives of the columns of a key.
use Rattle.std.proofs.Common.{◌≡◌, ◌∙◌, ◌==◌, ◌+◌, ◌<◌, ℕ, Bool, true, false, List, [], ◌∷◌, ◌++◌, None, Some, Option, append_assoc, length, refl, sym, ap, ap₂, subst, take, inr}
use Rattle.std.specs.Prelude.{is_some, not, unwrap_or, option_map}
use Rattle.std.specs.Borrow.{Bor}
use mathlib.Core.Bool.{beq}
use Rattle.std.specs.List.{AllZip}
use Rattle.std.proofs.lemmas.Bool.{eqb-true}
use Rattle.std.proofs.lemmas.List.{append-nil, map-append, take_more}
use Rattle.csv.specs.Records.{field_at}
use Rattle.keyed_text.specs.Streams.{GivesRow, HasRead}
use Rattle.keyed_text.specs.Texts.{AreRows}
use Rattle.keyed_text.specs.declared.row_reader.RowReader.{RowReader}
use Rattle.keyed_text.specs.declared.strict.Strict.{Strict}
use Rattle.keyed_columns.specs.KeyText.{AreNamesIn, AreNamesOf, EndsNames, GiveNames, GivesNames, HasNames, IsRecord, ReadsByte, begins_equal, begins_well, behind_first, doubled, other_in, read_of, text_left, waiting}
use Rattle.keyed_columns.specs.declared.key_record.TwoNames.{TwoNames}
use Rattle.keyed_columns.proofs.HeaderLemmas.{field-is}

doubled_if : (byte : ℕ) (xs ys : List ℕ) (b : Bool) → (byte == 61) ≡ b → doubled (xs ++ ys) ≡ doubled xs ++ doubled ys
    → doubled ((byte ∷ xs) ++ ys) ≡ doubled (byte ∷ xs) ++ doubled ys
unfolding doubled
doubled_if byte xs ys true e h = rw e (ap (λ l. 61 ∷ (61 ∷ l)) h)
doubled_if byte xs ys false e h = rw e (ap (λ l. byte ∷ l) h)

pub doubled-append : (xs ys : List ℕ) → doubled (xs ++ ys) ≡ doubled xs ++ doubled ys
unfolding doubled
doubled-append [] ys = refl
doubled-append (byte ∷ xs) ys = doubled_if byte xs ys (byte == 61) refl (doubled-append xs ys)

pub doubled-none : doubled [] ≡ []
unfolding doubled
doubled-none = refl

doubled_other : (byte : ℕ) → (byte == 61) ≡ false → doubled (byte ∷ []) ≡ byte ∷ []
unfolding doubled
doubled_other byte e = rw e refl

doubled_equal : (byte : ℕ) → (byte == 61) ≡ true → doubled (byte ∷ []) ≡ 61 ∷ (61 ∷ [])
unfolding doubled
doubled_equal byte e = rw e refl

-- two tests that agree
pub same-test : (a b : Bool) → beq a b ≡ true → a ≡ b
same-test true true e = refl
same-test true false e = absurd (cc e)
same-test false true e = absurd (cc e)
same-test false false e = refl

-- no second name
pub none-of : {A : Type 0} (name : Option A) (is : Bool) → is ≡ is_some name → is ≡ false → name ≡ None
none-of None is e f = refl
none-of (Some name) is e f = absurd (cc (sym e ∙ f))

-- nothing is read
pub names-new : (names : TwoNames) → names.first.items ≡ [] → names.other ≡ None → names.waits ≡ false → HasNames [] names
names-new names first other waits = record {
  read = sym (ap₂ (λ read wait. read ++ waiting wait) (ap₂ (λ f o. doubled f ++ behind_first (option_map (λ name. name.items) o)) first other) waits ∙ ap (λ l. (l ++ []) ++ []) doubled-none);
  begun = ap (λ o. begins_well (option_map (λ name. name.items) o)) other;
}

-- one more byte
module _ (old new : TwoNames) (byte : ℕ) where
  put_if : (bytes : List ℕ) (b : Bool) → (byte == 61) ≡ b → bytes ≡ read_of old ++ waiting b → bytes ++ (byte ∷ []) ≡ read_of old ++ doubled (byte ∷ [])
  put_if bytes true e h =
      let same : byte ≡ 61 = eqb-true byte 61 e in
      ap (λ l. l ++ (byte ∷ [])) h ∙ append_assoc (read_of old) (61 ∷ []) (byte ∷ []) ∙ ap (λ l. read_of old ++ (61 ∷ l)) (ap (λ b. b ∷ []) same)
      ∙ ap (λ l. read_of old ++ l) (sym (doubled_equal byte e))
  put_if bytes false e h =
      ap (λ l. l ++ (byte ∷ [])) (h ∙ append-nil (read_of old)) ∙ ap (λ l. read_of old ++ l) (sym (doubled_other byte e))

  pub read-put : old.waits ≡ (byte == 61) → new.waits ≡ false → read_of new ≡ read_of old ++ doubled (byte ∷ [])
      → (begins_well (option_map (λ name. name.items) old.other) ≡ true → begins_well (option_map (λ name. name.items) new.other) ≡ true) → ReadsByte old new byte
  read-put same goes read begun = λ bytes h. record {
    read = put_if bytes (byte == 61) refl (h.read ∙ ap (λ b. read_of old ++ waiting b) same) ∙ sym read ∙ sym (ap (λ b. read_of new ++ waiting b) goes ∙ append-nil (read_of new));
    begun = begun h.begun;
  }

  pub read-waits : old.waits ≡ false → (byte == 61) ≡ true → new ≡ record old { waits = true } → ReadsByte old new byte
  read-waits goes e is = λ bytes h. subst (HasNames (bytes ++ (byte ∷ []))) (sym is) (record {
    read = ap₂ (λ l b. l ++ (b ∷ [])) (h.read ∙ ap (λ b. read_of old ++ waiting b) goes ∙ append-nil (read_of old)) (eqb-true byte 61 e);
    begun = h.begun;
  })

  pub read-other : old.waits ≡ true → (byte == 61) ≡ false → old.other ≡ None → new.first ≡ old.first → (name : List ℕ)
      → option_map (λ name. name.items) new.other ≡ Some name → name ≡ byte ∷ [] → new.waits ≡ false → ReadsByte old new byte
  read-other waits e none first name is put goes = λ bytes h.
      let other : option_map (λ name. name.items) new.other ≡ Some (byte ∷ []) = is ∙ ap Some put in
      let old_read : read_of old ≡ doubled old.first.items = ap (λ o. doubled old.first.items ++ behind_first (option_map (λ name. name.items) o)) none ∙ append-nil (doubled old.first.items) in
      let new_read : read_of new ≡ doubled old.first.items ++ (61 ∷ (byte ∷ [])) =
      ap₂ (λ f o. doubled f.items ++ behind_first o) first other ∙ ap (λ l. doubled old.first.items ++ (61 ∷ l)) (doubled_other byte e) in
      record {
        read = ap (λ l. l ++ (byte ∷ [])) (h.read ∙ ap₂ (λ l b. l ++ waiting b) old_read waits) ∙ append_assoc (doubled old.first.items) (61 ∷ []) (byte ∷ [])
            ∙ sym new_read ∙ sym (ap (λ b. read_of new ++ waiting b) goes ∙ append-nil (read_of new));
        begun = ap begins_well other ∙ ap not e;
      }

-- a byte is put after the name that is read
pub put-first : (old new : TwoNames) (byte : ℕ) → old.other ≡ None → new.other ≡ None → new.first.items ≡ old.first.items ++ (byte ∷ [])
    → read_of new ≡ read_of old ++ doubled (byte ∷ [])
put-first old new byte was none is =
    ap₂ (λ f o. doubled f ++ behind_first (option_map (λ name. name.items) o)) is none ∙ append-nil _ ∙ doubled-append old.first.items (byte ∷ [])
    ∙ ap (λ l. l ++ doubled (byte ∷ [])) (sym (ap (λ o. doubled old.first.items ++ behind_first (option_map (λ name. name.items) o)) was ∙ append-nil _))

pub put-other : (old new : TwoNames) (byte : ℕ) (name more : List ℕ) → option_map (λ name. name.items) old.other ≡ Some name → option_map (λ name. name.items) new.other ≡ Some more
    → more ≡ name ++ (byte ∷ []) → new.first.items ≡ old.first.items → read_of new ≡ read_of old ++ doubled (byte ∷ [])
put-other old new byte name more was is put first =
    ap₂ (λ f o. doubled f ++ behind_first o) first is ∙ ap (λ m. doubled old.first.items ++ (61 ∷ doubled m)) put
    ∙ ap (λ l. doubled old.first.items ++ (61 ∷ l)) (doubled-append name (byte ∷ [])) ∙ sym (append_assoc (doubled old.first.items) (61 ∷ doubled name) (doubled (byte ∷ [])))
    ∙ ap (λ o. (doubled old.first.items ++ behind_first o) ++ doubled (byte ∷ [])) (sym was)

pub put-begun : (name more : List ℕ) (byte : ℕ) → more ≡ name ++ (byte ∷ []) → begins_well (Some name) ≡ true → begins_well (Some more) ≡ true
put-begun [] more byte is h = absurd (cc h)
put-begun (b ∷ name) more byte is h = ap (λ m. begins_well (Some m)) is ∙ h

-- the names are ended
pub ends-equal : (old new : TwoNames) → old.waits ≡ true → old.other ≡ None → new.first.items ≡ old.first.items → option_map (λ name. name.items) new.other ≡ Some []
    → EndsNames old new
ends-equal old new waits none first other = λ bytes h.
    let empty : other_in new ≡ [] = ap (λ o. unwrap_or o new.first.items) other in
    let read : bytes ≡ (doubled old.first.items ++ []) ++ (61 ∷ []) =
    h.read ∙ ap₂ (λ o b. (doubled old.first.items ++ behind_first (option_map (λ name. name.items) o)) ++ waiting b) none waits in
    inr (
      read ∙ ap (λ l. l ++ (61 ∷ [])) (append-nil (doubled old.first.items)) ∙ ap₂ (λ f o. doubled f ++ (61 ∷ o)) (sym first) (sym doubled-none ∙ ap doubled (sym empty)),
      ap begins_equal empty,
    )

-- the names of one more cell
zip_push : (cells : List (List ℕ)) (names : List (List ℕ × List ℕ)) (cell : List ℕ) (two : List ℕ × List ℕ)
    → AllZip GivesNames cells names → GivesNames cell two → AllZip GivesNames (cells ++ (cell ∷ [])) (names ++ (two ∷ []))
zip_push [] [] cell two h g = (g, tt)
zip_push [] (n ∷ names) cell two h g = absurd h
zip_push (c ∷ cells) [] cell two h g = absurd h
zip_push (c ∷ cells) (n ∷ names) cell two h g = (h.0, zip_push cells names cell two h.1 g)

pub give-none : (first others : List (List ℕ)) → first ≡ [] → others ≡ [] → GiveNames [] first others
give-none first others e f = record { names = []; given = tt; are_first = e; are_others = f }

pub give-more : (cells : List (List ℕ)) (i : ℕ) (first others more more_others : List (List ℕ)) (cell a b : List ℕ) → i < length cells → cell ≡ unwrap_or (field_at cells i) []
    → GiveNames (take i cells) first others → GivesNames cell (a, b) → more ≡ first ++ (a ∷ []) → more_others ≡ others ++ (b ∷ [])
    → GiveNames (take (i + 1) cells) more more_others
give-more cells i first others more more_others cell a b lt is h g e f =
    let at : take (i + 1) cells ≡ take i cells ++ (cell ∷ []) = take_more cells i [] lt ∙ ap (λ c. take i cells ++ (c ∷ [])) (sym (is ∙ field-is cells i)) in
    record {
      names = h.names ++ ((a, b) ∷ []);
      given = subst (λ l. AllZip GivesNames l (h.names ++ ((a, b) ∷ []))) (sym at) (zip_push (take i cells) h.names cell (a, b) h.given g);
      are_first = e ∙ ap (λ l. l ++ (a ∷ [])) h.are_first ∙ sym (map-append (λ two. two.0) h.names ((a, b) ∷ []));
      are_others = f ∙ ap (λ l. l ++ (b ∷ [])) h.are_others ∙ sym (map-append (λ two. two.1) h.names ((a, b) ∷ []));
    }

-- the one record of a text
some-record : (text : List ℕ) (cells : List (List ℕ)) → (length text == 0) ≡ false → AreRows 44 None text (cells ∷ []) → IsRecord text cells
some-record [] cells e h = absurd (cc e)
some-record (byte ∷ text) cells e h = h

pub names-read : (text : List ℕ) (a b c : RowReader (Strict (Bor (List ℕ)))) (cells more first others : List (List ℕ)) → (length text == 0) ≡ false
    → HasRead 44 None text_left text [] a → GivesRow text_left a b true cells → GivesRow text_left b c false more → AreNamesOf cells first others
    → AreNamesIn text first others
names-read text a b c cells more first others e begun reads ends h =
    (cells, some-record text cells e (ends 44 None text (cells ∷ []) (reads 44 None text [] begun)), h)
