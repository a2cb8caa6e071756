-- A value is put beside the lone one at the other side, as `put_left` and `put_right` do. Each is the other one with the sides exchanged:
-- so what differs is a function of the side at which a value comes. The MIR is written out here, since only a function's own proof can
-- name its code. Assumes `Logic`.
--     Side             the left or the right one: s, at which a value comes. The lone value is at `other s`
--     ended, held      the contract: of `put_left` at `at_left`, and of `put_right` at `at_right`
--     function         the MIR, at the two types and the side.        puts      what runs it meets the contract
use mathlib.Core.Path.{◌≡◌, refl, sym, subst, ap, ◌∙◌}
use mathlib.Core.Option as maybe
use mathlib.Core.List.{List, [], ◌∷◌, ◌++◌}
use mathlib.Core.Logic.{inl, inr}
use Prim.Native.Nat.{ℕ}
use seplogic.Ra.Ura.{Ura}
use lib.Dec.{T, lit<}
use mir.Facts.{and_yes, yes_and}
use mir.Syntax.{Fn, Ty, Tyss, Body, Callee, Local, Step, fn, no_args, named, mut, w8, ty_enum, ty_named, ty_param, ty_ptr, ty_ref, ty_unit, tcons, tnil, ttcons, ttnil, local, value_local, deref, variant, field, place, copy, int, opd_unit, addr_of, aggregate, rv_opd, switch, arm, no_default, block, seq, assign, call, return, unreachable}
use mir.Val.{Val, Vals, vptr, vunit, vcons, vnil, of_list, has_ty, has_tys, WT}
use base.Fraction.{full_share}
use base.Logic.{SProp, ent, id⊢, sep, ex, via, snd∗}
use base.Fml.{Lft, GName, Share, Fml, ftrue, fat, flft, fex, feq, fsep}
use prog.Memory.{variant_at, with_tag}
use prog.Model.{Model}
use prog.Wp.{Env, Calls, Loops, WpFn, Closed, spot_of}
use types.Logic.{Logic, sem}
use types.Kit.{Item, ‵, raw, some, given, ◌⊛◌, at_ret, ◌$◌, ◌∵◌, !, qed, by, move, keep, drop, use1, use3, split, join, pick, learn, show, rewrite, fsplit, fsplit3, fjoin, fjoin3, fpick, fpack, feq_l, feq_i, frame, suffices, done}
use types.Run.{Opd, OneOf, stop, fld, addr, load, look, store, of_opd, unit_lit, lit, first, blocks, assigns_last, and_then, no_more, exec, returns, enter, well_typed}
use types.Part.{whole, agg}
use types.Match.{live, vrt, in_variant, by_variants, covers}
use types.ByLocal.{at, alloc_all, pass_all, free_all, look_at, get, get_in, get_tag, through, sets, env}
use types.Mut.{open_ref, close_ref}
use contract.BorrowLft.{◌⊑◌}
use contract.Lifetimes.{lft_at}
use contract.Monad.{fact, fact_use}
use contract.Running.{Running, MachineTables, tables}
use denote.Builtin.{unit}
use denote.Exit.{no, yes}
use denote.RattleType.{RattleType, Valss, owns}
use denote.Signature.{types_at, plain, mut_ref_to}
use denote.Memory.{mem, part_at}
use denote.Enum.Enum.{in_a_row}
use denote.Param.{layout, param}
use denote.Param.Laws.{Laws}
use denote.Param.Steps.{one_value}
use denote.Steps.{nothing, only}
use denote.Triple.Clauses.{Clauses, Ended, closing}
use denote.Triple.Entry.{on_entry}
use denote.Triple.Spec.{Meets}
use denote.Triple.Walked.{Stays, stay_dropped, stay_ref, walk_of, ends_at, Goes-dropped, Goes-ref}
use borrow.Table.OneValue.{part_in_at, part_out_at}
use Rattle.std.specs.Prelude.{Option, Some, IsNone}
use Rattle.std.proofs.raw_atomic.Walks.{proved_at}
use Rattle.std.proofs.VecSteps.Shapes.{after}
use Rattle.std.proofs.mem.Facts.{says_two}
use Rattle.eob_both.specs.Places.{left_place, right_place}
use Rattle.eob_both.specs.declared.either_or_both.EitherOrBoth.TheVariants.{Left, Both, Right}
use Rattle.eob_both.specs.contracts.either_or_both.EitherOrBoth as C

pub data Side : Type 0 where
  at_left at_right : Side

abbrev other : Side → Side
other at_left = at_right
other at_right = at_left

abbrev index : Side → ℕ
index at_left = 0
index at_right = 1

-- the tag of a lone value at that side, and the tags of the other two variants
abbrev tag : Side → ℕ
tag at_left = 0
tag at_right = 2

abbrev tag₂ : Side → ℕ
tag₂ at_left = 1
tag₂ at_right = 0

abbrev tag₃ : Side → ℕ
tag₃ at_left = 2
tag₃ at_right = 1

-- where u comes at s and v is the lone value: the one at the side t, and the local that it is in
abbrev at_side : Side → Side → Val → Val → Val
at_side at_left at_left u v = u
at_side at_left at_right u v = v
at_side at_right at_left u v = v
at_side at_right at_right u v = u

abbrev local_of : Side → Side → ℕ
local_of at_left at_left = 2
local_of at_left at_right = 4
local_of at_right at_left = 4
local_of at_right at_right = 2

module _ (X Y : RattleType) where
  abbrev row : Side → RattleType
  row at_left = X
  row at_right = Y

  abbrev value : Side → RattleType
  value s = param (index s) (row s)

  abbrev lay : Side → Ty
  lay s = layout (row s)

  abbrev G : RattleType
  G = C.the_row (value at_left) (value at_right)

  abbrev alone : (s : Side) → (value s).Denot → G.Denot
  alone at_left x = Left x
  alone at_right y = Right y

  abbrev both : (s : Side) → (value s).Denot → (value (other s)).Denot → G.Denot
  both at_left x y = Both x y
  both at_right y x = Both x y

  abbrev place_at : (s : Side) → G.Denot → Option (value s).Denot
  place_at at_left h = left_place h
  place_at at_right h = right_place h

  -- the place at t after x came at s: x itself there, and at the other side what it was
  abbrev place_after : (s t : Side) → (value s).Denot → G.Denot → Option (value t).Denot
  place_after at_left at_left x h = Some x
  place_after at_left at_right x h = right_place h
  place_after at_right at_left y h = left_place h
  place_after at_right at_right y h = Some y

  -- where that place is empty, the value is the lone one at the other side
  is_alone : (s : Side) (h : G.Denot) → IsNone (place_at s h) → (y : (value (other s)).Denot) × (h ≡ alone (other s) y)
  is_alone at_left (Left l) n = let bad : ⊥ = cc n in absurd bad
  is_alone at_left (Both l r) n = let bad : ⊥ = cc n in absurd bad
  is_alone at_left (Right r) n = (r, refl)
  is_alone at_right (Left l) n = (l, refl)
  is_alone at_right (Both l r) n = let bad : ⊥ = cc n in absurd bad
  is_alone at_right (Right r) n = let bad : ⊥ = cc n in absurd bad

  puts_there : (s : Side) (x : (value s).Denot) (y : (value (other s)).Denot)
      → (place_at at_left (both s x y) ≡ place_after s at_left x (alone (other s) y)) × (place_at at_right (both s x y) ≡ place_after s at_right x (alone (other s) y))
  puts_there at_left x y = (refl, refl)
  puts_there at_right x y = (refl, refl)

  abbrev variants : Tyss
  variants = ttcons (tcons (lay at_left) tnil) (ttcons (tcons (lay at_left) (tcons (lay at_right) tnil)) (ttcons (tcons (lay at_right) tnil) ttnil))

  abbrev ω : Ty
  ω = ty_enum (C.the_type (value at_left) (value at_right)).name variants

  abbrev Good : Ty → Val → Type 0
  Good υ v = T (has_ty υ v) × WT v

  -- what computes at each side, and not at a side that is only named
  one_field_of : (t : Side) → variant_at variants (tag t) ≡ maybe.some (tcons (lay t) tnil)
  one_field_of at_left = refl
  one_field_of at_right = refl

  fits_alone : (t : Side) (vs : Vals) → T (has_ty ω (live (tag t) vs)) → T (has_tys (tcons (lay t) tnil) vs)
  fits_alone at_left vs h = h
  fits_alone at_right vs h = h

  good_side : (s t : Side) (u v : Val) → Good (lay s) u → Good (lay (other s)) v → Good (lay t) (at_side s t u v)
  good_side at_left at_left u v g h = g
  good_side at_left at_right u v g h = h
  good_side at_right at_left u v g h = h
  good_side at_right at_right u v g h = g

  covered : (t : Side) (p r : Body) → T (covers variants 0 (arm (tag t ∷ []) p (arm (tag₂ t ∷ tag₃ t ∷ []) r no_default)))
  covered at_left p r = tt
  covered at_right p r = tt

  differs : (t : Side) → OneOf (tag₂ t ∷ tag₃ t ∷ []) (tag t) → ⊥
  differs at_left (inl i) = cc i
  differs at_left (inr j) = cc j
  differs at_right (inl i) = cc i
  differs at_right (inr j) = cc j

  good_alone : (t : Side) (v : Val) → Good ω (live (tag t) (vcons v vnil)) → Good (lay t) v
  good_alone t v g = ((and_yes (has_ty (lay t) v) _ (fits_alone t (vcons v vnil) g.0)).0, g.1.1.0)

  good_both : (u v : Val) → Good (lay at_left) u → Good (lay at_right) v → Good ω (live 1 (vcons u (vcons v vnil)))
  good_both u v g h = (yes_and (has_ty (lay at_left) u) _ g.0 (yes_and (has_ty (lay at_right) v) _ h.0 tt), (record { fits = lit< tt }, (g.1, (h.1, tt))))

  module _ {M : Type 1} {𝓤 : Ura M} (𝓛 : Logic 𝓤) where
    open 𝓛 use {H}

    -- the operand that reads the value at the side t
    reads : (s t : Side) {K : Type 0} {Γ : List (Item 𝓤)} {E : Env 𝓤 H} {p q : Share} {u v : Val} (k : K) → at 𝓛 2 Γ ≡ ‵ (fat p (spot_of 𝓤 H E 2).0 (spot_of 𝓤 H E 2).1 0 u) → at 𝓛 4 Γ ≡ ‵ (fat q (spot_of 𝓤 H E 4).0 (spot_of 𝓤 H E 4).1 0 v)
        → Opd K 𝓛 Γ E (copy (place (local_of s t) [])) (at_side s t u v)
    reads at_left at_left k e f = get k e
    reads at_left at_right k e f = get k f
    reads at_right at_left k e f = get k f
    reads at_right at_right k e f = get k e

    abbrev Owned : (t : Side) → (value t).Denot → Val → Fml
    Owned t y w = fex (List Val) (λ us. fsep (feq (List Val) (w ∷ []) (live (tag t) (of_list us) ∷ [])) (fex (Valss (value t ∷ [])) (in_a_row (value t ∷ []) (owns (value t ∷ []) (y, tt)) us)))

    owned_alone : (t : Side) (y : (value t).Denot) (w : Val) → ent 𝓤 (sem 𝓛 (G.own_val (alone t y) (w ∷ []))) (sem 𝓛 (Owned t y w))
    owned_alone at_left y w = id⊢ 𝓤 _
    owned_alone at_right y w = id⊢ 𝓤 _

    module _ (b o : ℕ) where
      abbrev lone_cell : Side → Val → Fml
      lone_cell t v = fat full_share ω b o (live (tag t) (vcons v vnil))

      abbrev pair_cell : Val → Val → Fml
      pair_cell u v = fat full_share ω b o (live 1 (vcons u (vcons v vnil)))

      abbrev Opened : (t : Side) → (value t).Denot → Val → SProp 𝓤
      Opened t y v = sep 𝓤 (sem 𝓛 (lone_cell t v)) (sem 𝓛 ((value t).own_val y (v ∷ [])))

      one_field : (t : Side) (y : (value t).Denot) (ws : List Val) → T (has_ty ω (live (tag t) (of_list (ws ++ []))))
          → ent 𝓤 (sep 𝓤 (H.at full_share ω b o (live (tag t) (of_list (ws ++ [])))) (sem 𝓛 ((value t).own_val y ws))) (ex 𝓤 (Opened t y))
      one_field t y [] g = absurd (fits_alone t vnil g)
      one_field t y (v ∷ []) g = qed 𝓛 (‵ (lone_cell t v) ∷ ‵ ((value t).own_val y (v ∷ [])) ∷ []) ∵ show ! (Opened t y) v $ done !
      one_field t y (v ∷ u ∷ us) g = absurd (and_yes (has_ty (lay t) v) _ (fits_alone t (of_list (v ∷ u ∷ us ++ [])) g)).1

      -- the enum with a lone value is a cell with that side's tag, and what the value owns
      opened : (t : Side) (y : (value t).Denot) → ent 𝓤 (sem 𝓛 (part_at G full_share (alone t y) b o)) (ex 𝓤 (Opened t y))
      opened t y =
          qed 𝓛 (‵ (part_at G full_share (alone t y) b o) ∷ []) ∵
          use1 𝓛 (some (λ (w : Val). ‵ (fat full_share ω b o w) ⊛ ‵ (G.own_val (alone t y) (w ∷ [])))) (part_out_at 𝓛 G refl full_share (alone t y) b o ω refl) $ pick ! (λ w. split ! $
          move ! (1 ∷ []) $ use1 𝓛 (‵ (Owned t y w)) (owned_alone t y w) $ fpick ! (λ us. fsplit ! $ feq_l ! (λ e. fpick ! (λ vss. fsplit ! $ feq_l ! (λ f. fsplit ! $
          let u : Val = live (tag t) (of_list (vss.0 ++ [])) in
          rewrite ! 2 (λ (v : Val). ‵ (fat full_share ω b o v)) (ap only e ∙ ap (λ (vs : List Val). live (tag t) (of_list vs)) f) refl $ keep ! (2 ∷ 0 ∷ []) $
          use1 𝓛 (given (T (has_ty ω u) × WT u) (‵ (fat full_share ω b o u))) (𝓛.laws.at_wt full_share ω b o u) $ learn ! (λ g. by ! (one_field t y vss.0 g.0)))))))

      -- a cell with the tag 1 and what both values own are the enum with both
      closed_both : (x : (value at_left).Denot) (y : (value at_right).Denot) (u v : Val)
          → ent 𝓤 (sep 𝓤 (sem 𝓛 (pair_cell u v)) (sep 𝓤 (sem 𝓛 ((value at_left).own_val x (u ∷ []))) (sem 𝓛 ((value at_right).own_val y (v ∷ []))))) (sem 𝓛 ((mem G).own_at (Both x y) b o))
      closed_both x y u v =
          let w : Val = live 1 (vcons u (vcons v vnil)) in let Rs : List RattleType = value at_left ∷ value at_right ∷ [] in
          qed 𝓛 (‵ (pair_cell u v) ∷ ‵ ((value at_left).own_val x (u ∷ [])) ∷ ‵ ((value at_right).own_val y (v ∷ [])) ∷ []) ∵
          nothing ! $ move ! (3 ∷ 0 ∷ []) $ fjoin ! $ move ! (2 ∷ 0 ∷ []) $ fjoin ! $ feq_i ! (List Val) (u ∷ v ∷ []) (u ∷ v ∷ []) refl $ fjoin ! $
          fpack ! (Valss Rs) (in_a_row Rs (owns Rs (x, (y, tt))) (u ∷ v ∷ [])) (u ∷ [], (v ∷ [], tt)) $
          feq_i ! (List Val) (w ∷ []) (w ∷ []) refl $ fjoin ! $
          fpack ! (List Val) (λ us. fsep (feq (List Val) (w ∷ []) (live 1 (of_list us) ∷ [])) (fex (Valss Rs) (in_a_row Rs (owns Rs (x, (y, tt))) us))) (u ∷ v ∷ []) $
          move ! (1 ∷ 0 ∷ []) $ by ! (part_in_at 𝓛 G refl full_share (Both x y) b o ω refl w)

      closed : (s : Side) (x : (value s).Denot) (y : (value (other s)).Denot) (u v : Val)
          → ent 𝓤 (sep 𝓤 (sem 𝓛 (pair_cell (at_side s at_left u v) (at_side s at_right u v))) (sep 𝓤 (sem 𝓛 ((value s).own_val x (u ∷ []))) (sem 𝓛 ((value (other s)).own_val y (v ∷ []))))) (sem 𝓛 ((mem G).own_at (both s x y) b o))
      closed at_left x y u v = closed_both x y u v
      closed at_right y x u v = qed 𝓛 (‵ (pair_cell v u) ∷ ‵ ((value at_right).own_val y (u ∷ [])) ∷ ‵ ((value at_left).own_val x (v ∷ [])) ∷ []) ∵ keep ! (0 ∷ 2 ∷ 1 ∷ []) $ by ! (closed_both x y v u)

  module _ (s : Side) (laws : Laws (value s)) where
    abbrev t : Side
    t = other s

    abbrev ended : Ended
    ended = record {
      signature = record {
        lifetimes = 3;
        outlives = record { long = 1; long_ok = tt; short = named 0; short_ok = tt } ∷ record { long = 2; long_ok = tt; short = named 0; short_ok = tt } ∷ [];
        params = mut_ref_to (0 ∷ []) tt (plain (λ _. G)) ∷ plain (λ _. value s) ∷ [];
        result = plain (λ _. unit);
      };
      kept = (yes, (no, tt));
    }

    abbrev stayed : Stays ended.signature.params ended.kept
    stayed = (stay_ref (0 ∷ []) tt (plain (λ _. G)), (stay_dropped (plain (λ _. value s)) no, tt))

    module _ {M : Type 1} (𝓤 : Ura M) where
      abbrev held : Clauses 𝓤 ended
      held κs a = record {
        ghost = Unit {0};
        requires = λ _. sep 𝓤 (fact 𝓤 (lft_at 3 1 tt κs ⊑ X.lives)) (sep 𝓤 (fact 𝓤 (lft_at 3 2 tt κs ⊑ Y.lives)) (fact 𝓤 (IsNone (place_at s a.0.now))));
        ensures = λ _ r w. sep 𝓤 (fact 𝓤 (place_at at_left w.0.now ≡ place_after s at_left a.1.0 a.0.now)) (fact 𝓤 (place_at at_right w.0.now ≡ place_after s at_right a.1.0 a.0.now));
      }

    -- the MIR, as the checker makes it at each side: local 0 is the result, 1 the reference, 2 the value that comes, 3 the raw pointer, 4
    -- the lone value, 5 the enum that was read, 6 and 7 the left and the right value, and 8 both
    abbrev held_by : Ty → Local
    held_by υ = local υ value_local

    abbrev behind : List Step
    behind = deref ω ∷ []

    abbrev puts_both : Body
    puts_both =
        seq (assign (place 4 []) (rv_opd (copy (place 5 (variant (tag t) ∷ field 1 ∷ [])))))
        (seq (assign (place 6 []) (rv_opd (copy (place (local_of s at_left) []))))
        (seq (assign (place 7 []) (rv_opd (copy (place (local_of s at_right) []))))
        (seq (assign (place 8 []) (aggregate (int w8 1 ∷ copy (place 6 []) ∷ copy (place 7 []) ∷ [])))
        (assign (place 3 behind) (rv_opd (copy (place 8 [])))))))

    abbrev unmet : Body
    unmet = seq (call (fn "core::assertions::unreachable" no_args) [] (place 9 [])) unreachable

    abbrev function : Fn
    function = record {
      lifetimes = 1;
      outlives = (1, 0) ∷ (2, 0) ∷ [];
      ty_params = [];
      givens = 0;
      params = 2;
      locals = held_by ty_unit ∷ held_by (ty_ref (named 0) mut (ty_named ((C.the_type (value at_left) (value at_right)).name, []) (tcons (ty_param 0) (tcons (ty_param 1) tnil)))) ∷ held_by (lay s)
          ∷ held_by ty_ptr ∷ held_by (lay t) ∷ held_by ω ∷ held_by (lay at_left) ∷ held_by (lay at_right) ∷ held_by ω ∷ held_by ty_unit ∷ [];
      body = seq (assign (place 3 []) (addr_of (place 1 behind)))
          (seq (block (seq (assign (place 5 []) (rv_opd (copy (place 3 behind)))) (switch (copy (place 5 (variant 0 ∷ field 0 ∷ [])))
          (arm (tag t ∷ []) puts_both (arm (tag₂ t ∷ tag₃ t ∷ []) unmet no_default)))))
          (seq (assign (place 0 []) (rv_opd opd_unit)) return));
    }

    module _ {M : Type 1} {𝓤 : Ura M} (𝓛 : Logic 𝓤) (calls : Calls 𝓤 𝓛.H) (Λ : Loops 𝓤 𝓛.H) (z : (walk_of 𝓛 ended stayed (held 𝓤)).Ghost) where
      open 𝓛 use {H}

      abbrev b : ℕ
      b = z.0.3.0.ref_ptr.0

      abbrev o : ℕ
      o = z.0.3.0.ref_ptr.1

      abbrev γ : GName
      γ = z.0.3.0.ghost_name

      abbrev x : (value s).Denot
      x = z.0.3.1.0

      abbrev κ : Lft
      κ = z.0.0.0

      abbrev q : Share
      q = z.0.1.0

      abbrev others : Item 𝓤
      others = ‵ (flft z.0.0.1.0 z.0.1.1.0) ⊛ ‵ (flft z.0.0.1.1.0 z.0.1.1.1.0) ⊛ ‵ ftrue

      abbrev At : G.Denot → List Val → List Val → (walk_of 𝓛 ended stayed (held 𝓤)).Ghost
      At h us vs = ((z.0.0, z.0.1, z.0.2, (record { ref_ptr = (b, o); ghost_name = γ; now = h }, (x, tt)), (us, (vs, tt))), z.1)

      abbrev Goes : G.Denot → List Val → List Val → Type 1
      Goes h us vs = ent 𝓤 ((walk_of 𝓛 ended stayed (held 𝓤)).pre (At h us vs)) (WpFn 𝓤 H calls Λ function (us ++ (vs ++ [])) ((walk_of 𝓛 ended stayed (held 𝓤)).post (At h us vs)))

      walks_alone : (y : (value t).Denot) (u : Val) → Good (lay s) u → Goes (alone t y) (vptr b o ∷ []) (u ∷ [])
      walks_alone y u ok =
          let us : List Val = vptr b o ∷ [] in
          let z' : (walk_of 𝓛 ended stayed (held 𝓤)).Ghost = At (alone t y) us (u ∷ []) in
          let Post : Val → SProp 𝓤 = (walk_of 𝓛 ended stayed (held 𝓤)).post z' in
          qed 𝓛 (((‵ (flft κ q) ⊛ others) ⊛ ‵ (owns (types_at ended.signature.params z.0.0) z'.0.3 (us, (u ∷ [], tt)))) ∷ raw ((held 𝓤 z.0.0 z'.0.3).requires z.1) ∷ []) ∵
          split ! $ split ! $ move ! (2 ∷ []) $ fsplit ! $ fsplit3 ! $ drop ! $ move ! (2 ∷ []) $ fsplit ! $ keep ! (2 ∷ 3 ∷ 4 ∷ 0 ∷ 5 ∷ []) $
          enter ! calls Λ function (vptr b o ∷ u ∷ []) _ $ alloc_all ! (λ l. pass_all ! refl ((tt, tt), (ok, tt)) $ let En : Env 𝓤 H = env function.locals l in
          open_ref ! tt (mem G) $
          use1 𝓛 (some (λ (v : Val). ‵ (lone_cell 𝓛 b o t v) ⊛ ‵ ((value t).own_val y (v ∷ [])))) (opened 𝓛 b o t y) $ pick ! (λ v. split ! $
          well_typed ! (λ fits.
          sets ! (addr ! (through ! refl (stop !))) refl (tt, tt) $
          first ! $ blocks ! $
          sets ! (of_opd ! (load ! (through ! refl (stop !)) (look ! 0 refl))) refl fits $
          let lone : Good (lay t) v = good_alone t v fits in
          let l : Val = at_side s at_left u v in let left : Good (lay at_left) l = good_side s at_left u v ok lone in
          let r : Val = at_side s at_right u v in let right : Good (lay at_right) r = good_side s at_right u v ok lone in
          let pair : Good ω (live 1 (vcons l (vcons r vnil))) = good_both l r left right in
          by_variants ! 0 (whole !) (get_tag ! (vrt ! refl (fld ! refl (stop !))) (whole !)) (covered t puts_both unmet) (
            (λ _.
                sets ! (of_opd ! (get_in ! (vrt ! (ap (with_tag _) (one_field_of t)) (fld ! refl (stop !))) (in_variant ! (tag t) 0 (one_field_of t) refl (whole !)))) refl lone $
                sets ! (of_opd ! (reads 𝓛 s at_left ! refl refl)) refl left $
                sets ! (of_opd ! (reads 𝓛 s at_right ! refl refl)) refl right $
                sets ! (agg ! (and_then ! (lit ! tt) (and_then ! (get ! refl) (and_then ! (get ! refl) (no_more !))))) refl pair $
                assigns_last ! (of_opd ! (get ! refl)) (through ! refl (stop !)) (store ! 0 refl pair) $
                exec ! calls Λ En (after 2 function.body) (at_ret En Post) $
                sets ! (of_opd ! (unit_lit !)) refl (tt, tt) $
                move ! (0 ∷ 5 ∷ 1 ∷ []) $ use3 𝓛 (‵ ((mem G).own_at (both s x y) b o)) (closed 𝓛 b o s x y u v) $
                close_ref ! tt (mem G) (both s x y) $
                returns ! (look_at ! 0 refl) $ free_all ! refl $
                suffices ! _ (ends_at 𝓛 ended stayed (held 𝓤) z' vunit tt (both s x y, (tt, tt)) (tt, (tt, tt))) $
                says_two ! (puts_there s x y) $ move ! (2 ∷ 3 ∷ []) $ join ! $ frame ! $
                feq_i ! (List Val) us us refl $ fjoin3 ! $ nothing ! $ nothing ! $ fjoin ! $ move ! (1 ∷ 0 ∷ []) $ fjoin ! $
                feq_i ! (List Val) (vunit ∷ []) (vunit ∷ []) refl $ move ! (1 ∷ 0 ∷ []) $ done !),
            ((λ e. absurd (differs t e)), tt),
          ))))

      -- what the contract asks leaves the lone value alone
      walks : (h : G.Denot) (u : Val) → Good (lay s) u → Goes h (vptr b o ∷ []) (u ∷ [])
      walks h u ok =
          let us : List Val = vptr b o ∷ [] in
          let A : SProp 𝓤 = fact 𝓤 (lft_at 3 1 tt z.0.0 ⊑ X.lives) in let B : SProp 𝓤 = fact 𝓤 (lft_at 3 2 tt z.0.0 ⊑ Y.lives) in
          let N : SProp 𝓤 = fact 𝓤 (IsNone (place_at s h)) in
          fact_use 𝓤 (IsNone (place_at s h))
          (via 𝓤 (sep 𝓤 A (sep 𝓤 B N)) (snd∗ 𝓤 (on_entry 𝓛 ended.signature z.0.0 z.0.1 (At h us (u ∷ [])).0.3 (us, (u ∷ [], tt))) (sep 𝓤 A (sep 𝓤 B N))) (via 𝓤 (sep 𝓤 B N) (snd∗ 𝓤 A (sep 𝓤 B N)) (snd∗ 𝓤 B N)))
          (λ none. let y : (y : (value t).Denot) × (h ≡ alone t y) = is_alone s h none in subst (λ (g : G.Denot). Goes g us (u ∷ [])) (sym y.1) (walks_alone y.0 u ok))

    -- whatever runs that MIR meets the contract: either function, as the tables have it under its name
    module _ {M : Type 1} (𝓤 : Ura M) (𝓛 : Logic 𝓤) (𝓜 : Model 𝓤 𝓛.H) (𝓡 : Running 𝓤 𝓛.H 𝓜) where
      open 𝓛 use {H}

      abbrev 𝓣 : MachineTables 𝓤 H 𝓜
      𝓣 = tables 𝓤 H 𝓜 𝓡 𝓡.env

      pub puts : (k : Callee) → Closed 𝓤 H 𝓣.C 𝓣.Λ k function → Meets 𝓛 ended.signature (𝓣.C k) (closing 𝓛 ended (held 𝓤))
      puts k closes =
          proved_at 𝓛 ended stayed (held 𝓤) 𝓜 𝓡 (Goes-ref 𝓛 3 0 tt (plain (λ _. G)), (Goes-dropped 𝓛 3 (plain (λ _. value s)) no (λ κs x f. refl), tt)) k function closes
          (λ z are. let a = z.0.3 in let vss = z.0.4 in
          subst (λ (us : List Val). Goes 𝓛 𝓣.C 𝓣.Λ z a.0.now us vss.1.0) (sym are.0.0)
          (one_value (lay s) (λ vs. Goes 𝓛 𝓣.C 𝓣.Λ z a.0.now (vptr a.0.ref_ptr.0 a.0.ref_ptr.1 ∷ []) vs) vss.1.0 ((laws.lawful 𝓛).typed a.1.0 vss.1.0 are.1.0) (λ u ok. walks 𝓛 𝓣.C 𝓣.Λ z a.0.now u ok)))
