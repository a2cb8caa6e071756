-- A function that lends the value that is there, as `as_mut` and `From<&mut Either<L, R>>` do, whose MIR is the same to the letter. It is
-- written out here, since only a function's own proof can name its code. Assumes `Logic`.
--     function         the MIR, at the two types
--     lends_place      what runs it meets the contract of `as_mut`, which says the same as that of `from`
use mathlib.Core.Path.{refl, sym, subst, ap}
use mathlib.Core.List.{List, [], ◌∷◌, ◌++◌}
use Prim.Native.Nat.{ℕ, ◌+◌}
use seplogic.Ra.Ura.{Ura}
use lib.Dec.{lit<}
use mir.Syntax.{Fn, Ty, Lifetime, Local, Step, Body, Args, a_type, named, erased, mut, w8, ty_enum, ty_ref, ty_param, ty_named, tcons, tnil, ttcons, ttnil, local, value_local, deref, variant, field, place, copy, int, addr_of, aggregate, rv_opd, switch, arm, no_default, seq, assign, return}
use mir.Val.{Val, vptr, vcons, vnil, of_list}
use mir.MapTy.{inst_fn}
use base.Fraction.{full_share}
use base.Logic.{SProp, ent, sep, ex}
use base.Fml.{Lft, GName, Share, ftrue, fat, flft, fex, feq, fsep}
use prog.Memory.{Memory}
use prog.Routine.{Routine, Callee}
use prog.Model.{Model}
use prog.Wp.{Env, Calls, Loops, WpFn, Closed}
use types.Logic.{Logic, sem}
use types.Kit.{Item, ‵, raw, some, later, ◌⊛◌, at_ret, ◌$◌, ◌∵◌, !, qed, move, keep, use1, use2, split, split3, join, group, pick, show, await, rewrite, fsplit, fsplit3, fjoin, fpick, fpack, feq_l, feq_i, frame, suffices, done}
use types.Run.{stop, fld, addr, load, of_opd, lit, first, and_then, no_more, exec, returns, enter}
use types.Part.{whole, agg}
use types.Match.{live, vrt, look_tag, by_variants}
use types.ByLocal.{alloc_all, pass_all, free_all, look_at, get, through, sets, sets_last, env}
use types.Mut.{open_ref}
use contract.Monad.{Fun}
use contract.Running.{Running, MachineTables, tables}
use denote.Exit.{no}
use denote.RattleType.{RattleType, Valss, owns}
use denote.Signature.{types_at, plain, mut_ref_to}
use denote.Ref.{MutRef, MutBor}
use denote.Memory.{mem, part_at}
use denote.Plain.{uint_Lawful}
use denote.Enum.Enum.{in_a_row, payload, form_of}
use denote.Enum.Row.{tagged_with}
use denote.Enum.Declared.{Declared, tag_of, shape}
use denote.Enum.Declared as declared
use denote.Struct.Members.{Member}
use denote.Follow.{follows}
use denote.Param.{layout, layouts, param}
use denote.Param.Laws.{Laws, param_laws}
use denote.Steps.{nothing, only}
use denote.Triple.Clauses.{Clauses, Ended, closing}
use denote.Triple.Spec.{Meets}
use denote.Triple.Walked.{Stays, stay_dropped, walk_of, ends_at, says, Goes-spent_ref}
use borrow.Table.OneValue.{part_in_at, part_out_at}
use Rattle.std.proofs.raw_atomic.Walks.{proved_at}
use Rattle.std.proofs.VecSteps.Shapes.{after}
use Rattle.eob_both.proofs.Lent.{first_at, lends_one}
use Rattle.either_or_both.specs.declared.either.Either.TheVariants.{Left, Right}
use Rattle.either_or_both.specs.contracts.either.Either as C
use Rattle.either_or_both.specs.contracts.either.Either.as_mut as F

module _ (X Y : RattleType) (XL : Laws X) (YL : Laws Y) where
  abbrev ended : Ended
  ended = F.ended X Y

  abbrev L : RattleType
  L = param 0 X

  abbrev R : RattleType
  R = param 1 Y

  abbrev D : Declared
  D = C.the_type L R

  abbrev G : RattleType
  G = C.the_row L R

  abbrev stayed : Stays ended.signature.params ended.kept
  stayed = (stay_dropped (mut_ref_to (0 ∷ []) tt (plain (λ _. G))) no, tt)

  abbrev σ : Ty
  σ = layout X

  abbrev τ : Ty
  τ = layout Y

  abbrev either_of : Ty → Ty → Ty
  either_of υ φ = ty_enum D.name (ttcons (tcons υ tnil) (ttcons (tcons φ tnil) ttnil))

  abbrev ω : Ty
  ω = either_of σ τ

  -- the MIR, as the checker makes it of both functions: local 0 is the result and local 1 the reference to the enum
  abbrev held_by : Ty → Local
  held_by υ = local υ value_local

  abbrev lent : Lifetime → ℕ → Ty
  lent α k = ty_ref α mut (ty_param k)

  abbrev behind : Step
  behind = deref (either_of (ty_param 0) (ty_param 1))

  -- the variant k: a reference to its value in local 2 + k, lent again in local 5 + k, and in local 4 the same variant of it
  abbrev lends : ℕ → Body
  lends k =
      seq (assign (place (2 + k) []) (addr_of (place 1 (behind ∷ variant k ∷ field 1 ∷ []))))
      (seq (assign (place (5 + k) []) (addr_of (place (2 + k) (deref (ty_param k) ∷ []))))
      (assign (place 4 []) (aggregate (int w8 k ∷ copy (place (5 + k) []) ∷ []))))

  abbrev written : Fn
  written = record {
    lifetimes = 1;
    outlives = (1, 0) ∷ (2, 0) ∷ [];
    ty_params = a_type ∷ a_type ∷ [];
    givens = 0;
    params = 1;
    locals = held_by (either_of (lent (named 0) 0) (lent (named 0) 1)) ∷ held_by (ty_ref (named 0) mut (ty_named (D.name, []) (tcons (ty_param 0) (tcons (ty_param 1) tnil))))
        ∷ held_by (lent erased 0) ∷ held_by (lent erased 1) ∷ held_by (either_of (lent erased 0) (lent erased 1)) ∷ held_by (lent erased 0) ∷ held_by (lent erased 1) ∷ [];
    body = seq (switch (copy (place 1 (behind ∷ variant 0 ∷ field 0 ∷ []))) (arm (0 ∷ []) (lends 0) (arm (1 ∷ []) (lends 1) no_default)))
        (seq (assign (place 0 []) (rv_opd (copy (place 4 [])))) return);
  }

  abbrev pub args : Args
  args = layouts (a_type ∷ a_type ∷ []) (X, (Y, tt))

  abbrev pub function : Fn
  function = inst_fn args written

  abbrev in_left : Member
  in_left = record { row = L; ty = σ }

  abbrev in_right : Member
  in_right = record { row = R; ty = τ }

  module _ {M : Type 1} {𝓤 : Ura M} (𝓛 : Logic 𝓤) (b o : ℕ) where
    open 𝓛 use {H, A}

    abbrev Opened : G.Denot → List Val → SProp 𝓤
    Opened h us = sep 𝓤 (sem 𝓛 (fat full_share ω b o (live (tag_of D h) (of_list us)))) (sem 𝓛 (G.own_val h (live (tag_of D h) (of_list us) ∷ [])))

    -- the enum is a cell that shows its tag, and what the value owns
    opened : (h : G.Denot) → ent 𝓤 (sem 𝓛 (part_at G full_share h b o)) (ex 𝓤 (Opened h))
    opened h =
        qed 𝓛 (‵ (part_at G full_share h b o) ∷ []) ∵
        use1 𝓛 (some (λ (w : Val). ‵ (fat full_share ω b o w) ⊛ ‵ (G.own_val h (w ∷ [])))) (part_out_at 𝓛 G refl full_share h b o ω refl) $ pick ! (λ w. split ! $
        move ! (1 ∷ []) $ fpick ! (λ us. fsplit ! $ feq_l ! (λ e. move ! (1 ∷ []) $
        rewrite ! 0 (λ (v : Val). ‵ (fat full_share ω b o v)) (ap only e) refl $ move ! (1 ∷ []) $
        let v : Val = live (tag_of D h) (of_list us) in
        feq_i ! (List Val) (v ∷ []) (v ∷ []) refl $ fjoin ! $ fpack ! (List Val) (tagged_with (form_of (shape D)) (payload (declared.variants D)) (D.to h) (v ∷ [])) us $
        move ! (1 ∷ 0 ∷ []) $ group ! 2 $ show ! (Opened h) us $ done !)))

  module _ {M : Type 1} {𝓤 : Ura M} (𝓛 : Logic 𝓤) (at_mem : Memory → SProp 𝓤) (run : Routine → Fun 𝓤) where
    open 𝓛 use {H}

    abbrev held : Clauses 𝓤 ended
    held = F.clauses X Y 𝓛 at_mem run

    module _ (calls : Calls 𝓤 H) (Λ : Loops 𝓤 H) (z : (walk_of 𝓛 ended stayed held).Ghost) where
      abbrev b : ℕ
      b = z.0.3.0.ref_ptr.0

      abbrev o : ℕ
      o = z.0.3.0.ref_ptr.1

      abbrev γ : GName
      γ = z.0.3.0.ghost_name

      abbrev κ : Lft
      κ = z.0.0.0

      abbrev q : Share
      q = z.0.1.0

      abbrev others : Item 𝓤
      others = ‵ (flft z.0.0.1.0 z.0.1.1.0) ⊛ ‵ (flft z.0.0.1.1.0 z.0.1.1.1.0) ⊛ ‵ ftrue

      abbrev At : G.Denot → List Val → (walk_of 𝓛 ended stayed held).Ghost
      At h us = ((z.0.0, z.0.1, z.0.2, (record { ref_ptr = (b, o); ghost_name = γ; now = h }, tt), (us, tt)), z.1)

      abbrev Goes : G.Denot → List Val → Type 1
      Goes h us = ent 𝓤 ((walk_of 𝓛 ended stayed held).pre (At h us)) (WpFn 𝓤 H calls Λ function (us ++ []) ((walk_of 𝓛 ended stayed held).post (At h us)))

      abbrev Mut : RattleType → RattleType
      Mut T = MutRef (named 0) κ T

      walks : (h : G.Denot) → Goes h (vptr b o ∷ [])
      walks (Left x) =
          let us : List Val = vptr b o ∷ [] in
          let Post : Val → SProp 𝓤 = (walk_of 𝓛 ended stayed held).post (At (Left x) us) in
          qed 𝓛 (((‵ (flft κ q) ⊛ others) ⊛ ‵ (owns (types_at ended.signature.params z.0.0) (At (Left x) us).0.3 (us, tt))) ∷ raw ((held z.0.0 (At (Left x) us).0.3).requires z.1) ∷ []) ∵
          split ! $ split ! $ move ! (2 ∷ []) $ fsplit ! $ fsplit3 ! $ keep ! (1 ∷ 2 ∷ 4 ∷ 5 ∷ []) $
          enter ! calls Λ function us _ $ alloc_all ! (λ l. pass_all ! refl ((tt, tt), tt) $ let En : Env 𝓤 H = env function.locals l in
          open_ref ! tt (mem G) $
          use1 𝓛 (some (λ (vs : List Val). ‵ (fat full_share ω b o (live 0 (of_list vs))) ⊛ ‵ (G.own_val (Left x) (live 0 (of_list vs) ∷ [])))) (opened 𝓛 b o (Left x)) $ pick ! (λ vs. split ! $
          first ! $ by_variants ! 0 (whole !) (load ! (through ! refl (vrt ! refl (fld ! refl (stop !)))) (look_tag ! 0 (whole !))) tt ((
            (λ _. sets ! (addr ! (through ! refl (vrt ! refl (fld ! refl (stop !))))) refl (tt, tt) $
                sets ! (addr ! (through ! refl (stop !))) refl (tt, tt) $
                sets_last ! (agg ! (and_then ! (lit ! tt) (and_then ! (get ! refl) (no_more !)))) refl (tt, (record { fits = lit< tt }, (tt, tt))) $
                exec ! calls Λ En (after 1 function.body) (at_ret En Post) $
                sets ! (of_opd ! (get ! refl)) refl (tt, (record { fits = lit< tt }, (tt, tt))) $
                move ! (0 ∷ 1 ∷ []) $ use2 𝓛 (‵ (part_at G full_share (Left x) b o)) (part_in_at 𝓛 G refl full_share (Left x) b o ω refl (live 0 (of_list vs))) $ group ! 4 $
                use1 𝓛 (later (some (λ (δ : GName). ‵ ((MutRef (named 0) κ L).own_val (record { ref_ptr = (b, first_at in_left o); ghost_name = δ; now = x }) (vptr b (first_at in_left o) ∷ [])) ⊛ ‵ (flft κ q) ⊛ ‵ (follows G L γ δ (λ w. Left w)))))
                (lends_one D 0 in_left (λ w. Left w) (λ a us. refl) (λ a. refl) (lit< tt) refl refl 𝓛 (uint_Lawful 𝓛 w8, ((param_laws 0 X XL).lawful 𝓛, tt)) κ q b o γ x (G.coded.code (Left x))) $ await ! tt $ pick ! (λ δ. split3 ! $
                let p : MutBor L.Denot = record { ref_ptr = (b, first_at in_left o); ghost_name = δ; now = x } in
                let at : Val = vptr b (first_at in_left o) in let out : Val = live 0 (vcons at vnil) in
                returns ! (look_at ! 0 refl) $ free_all ! refl $ keep ! (0 ∷ 1 ∷ 2 ∷ 3 ∷ []) $
                suffices ! _ (ends_at 𝓛 ended stayed held (At (Left x) us) out (Left p) (tt, tt) (tt, tt)) $
                -- [the reference; the token; what the enum follows; the other tokens]
                nothing ! $ move ! (1 ∷ 0 ∷ []) $ fjoin ! $ feq_i ! (List Val) (at ∷ []) (at ∷ []) refl $ fjoin ! $
                fpack ! (Valss (Mut L ∷ [])) (in_a_row (Mut L ∷ []) (owns (Mut L ∷ []) (p, tt)) (at ∷ [])) (at ∷ [], tt) $
                feq_i ! (List Val) (out ∷ []) (out ∷ []) refl $ fjoin ! $
                fpack ! (List Val) (λ us'. fsep (feq (List Val) (out ∷ []) (live 0 (of_list us') ∷ [])) (fex (Valss (Mut L ∷ [])) (in_a_row (Mut L ∷ []) (owns (Mut L ∷ []) (p, tt)) us'))) (at ∷ []) $
                nothing ! $ nothing ! $ fjoin ! $ move ! (2 ∷ 4 ∷ []) $ join ! $ group ! 3 $ frame ! $ says ! refl $ done !)),
            ((λ e. let bad : ⊥ = cc e in absurd bad), tt),
          ))))
      walks (Right y) =
          let us : List Val = vptr b o ∷ [] in
          let Post : Val → SProp 𝓤 = (walk_of 𝓛 ended stayed held).post (At (Right y) us) in
          qed 𝓛 (((‵ (flft κ q) ⊛ others) ⊛ ‵ (owns (types_at ended.signature.params z.0.0) (At (Right y) us).0.3 (us, tt))) ∷ raw ((held z.0.0 (At (Right y) us).0.3).requires z.1) ∷ []) ∵
          split ! $ split ! $ move ! (2 ∷ []) $ fsplit ! $ fsplit3 ! $ keep ! (1 ∷ 2 ∷ 4 ∷ 5 ∷ []) $
          enter ! calls Λ function us _ $ alloc_all ! (λ l. pass_all ! refl ((tt, tt), tt) $ let En : Env 𝓤 H = env function.locals l in
          open_ref ! tt (mem G) $
          use1 𝓛 (some (λ (vs : List Val). ‵ (fat full_share ω b o (live 1 (of_list vs))) ⊛ ‵ (G.own_val (Right y) (live 1 (of_list vs) ∷ [])))) (opened 𝓛 b o (Right y)) $ pick ! (λ vs. split ! $
          first ! $ by_variants ! 0 (whole !) (load ! (through ! refl (vrt ! refl (fld ! refl (stop !)))) (look_tag ! 0 (whole !))) tt ((
            (λ e. let bad : ⊥ = cc e in absurd bad),
            (
              (λ _. sets ! (addr ! (through ! refl (vrt ! refl (fld ! refl (stop !))))) refl (tt, tt) $
                  sets ! (addr ! (through ! refl (stop !))) refl (tt, tt) $
                  sets_last ! (agg ! (and_then ! (lit ! tt) (and_then ! (get ! refl) (no_more !)))) refl (tt, (record { fits = lit< tt }, (tt, tt))) $
                  exec ! calls Λ En (after 1 function.body) (at_ret En Post) $
                  sets ! (of_opd ! (get ! refl)) refl (tt, (record { fits = lit< tt }, (tt, tt))) $
                  move ! (0 ∷ 1 ∷ []) $ use2 𝓛 (‵ (part_at G full_share (Right y) b o)) (part_in_at 𝓛 G refl full_share (Right y) b o ω refl (live 1 (of_list vs))) $ group ! 4 $
                  use1 𝓛 (later (some (λ (δ : GName). ‵ ((MutRef (named 0) κ R).own_val (record { ref_ptr = (b, first_at in_right o); ghost_name = δ; now = y }) (vptr b (first_at in_right o) ∷ [])) ⊛ ‵ (flft κ q) ⊛ ‵ (follows G R γ δ (λ w. Right w)))))
                  (lends_one D 1 in_right (λ w. Right w) (λ a us. refl) (λ a. refl) (lit< tt) refl refl 𝓛 (uint_Lawful 𝓛 w8, ((param_laws 1 Y YL).lawful 𝓛, tt)) κ q b o γ y (G.coded.code (Right y))) $ await ! tt $ pick ! (λ δ. split3 ! $
                  let p : MutBor R.Denot = record { ref_ptr = (b, first_at in_right o); ghost_name = δ; now = y } in
                  let at : Val = vptr b (first_at in_right o) in let out : Val = live 1 (vcons at vnil) in
                  returns ! (look_at ! 0 refl) $ free_all ! refl $ keep ! (0 ∷ 1 ∷ 2 ∷ 3 ∷ []) $
                  suffices ! _ (ends_at 𝓛 ended stayed held (At (Right y) us) out (Right p) (tt, tt) (tt, tt)) $
                  -- [the reference; the token; what the enum follows; the other tokens]
                  nothing ! $ move ! (1 ∷ 0 ∷ []) $ fjoin ! $ feq_i ! (List Val) (at ∷ []) (at ∷ []) refl $ fjoin ! $
                  fpack ! (Valss (Mut R ∷ [])) (in_a_row (Mut R ∷ []) (owns (Mut R ∷ []) (p, tt)) (at ∷ [])) (at ∷ [], tt) $
                  feq_i ! (List Val) (out ∷ []) (out ∷ []) refl $ fjoin ! $
                  fpack ! (List Val) (λ us'. fsep (feq (List Val) (out ∷ []) (live 1 (of_list us') ∷ [])) (fex (Valss (Mut R ∷ [])) (in_a_row (Mut R ∷ []) (owns (Mut R ∷ []) (p, tt)) us'))) (at ∷ []) $
                  nothing ! $ nothing ! $ fjoin ! $ move ! (2 ∷ 4 ∷ []) $ join ! $ group ! 3 $ frame ! $ says ! refl $ done !)),
              tt,
            ),
          ))))

  -- whatever runs that MIR meets the contract: either function, as the tables have it under its name
  module _ {M : Type 1} (𝓤 : Ura M) (𝓛 : Logic 𝓤) (𝓜 : Model 𝓤 𝓛.H) (𝓡 : Running 𝓤 𝓛.H 𝓜) where
    open 𝓛 use {H}

    abbrev 𝓣 : MachineTables 𝓤 H 𝓜
    𝓣 = tables 𝓤 H 𝓜 𝓡 𝓡.env

    pub lends_place : (k : Callee) → Closed 𝓤 H 𝓣.C 𝓣.Λ k function → Meets 𝓛 ended.signature (𝓣.C k) (closing 𝓛 ended (held 𝓛 𝓜.mem 𝓡.returns))
    lends_place k closed =
        proved_at 𝓛 ended stayed (held 𝓛 𝓜.mem 𝓡.returns) 𝓜 𝓡 (Goes-spent_ref 𝓛 3 (0 ∷ []) tt (plain (λ _. G)), tt) k function closed
        (λ z are. subst (Goes 𝓛 𝓜.mem 𝓡.returns 𝓣.C 𝓣.Λ z z.0.3.0.now) (sym are.0.0) (walks 𝓛 𝓜.mem 𝓡.returns 𝓣.C 𝓣.Λ z z.0.3.0.now))
