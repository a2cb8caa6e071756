-- What is said of a value once the result's borrow of it ends may be weakened.
use base.Logic.{ent, ex_e, ex_i, mono_r, sep}
use seplogic.Ra.Ura.{Ura}
use contract.Monad.{fact}
use types.Logic.{Logic, sem}
use denote.Follow.{follows_by, such_by}
use Rattle.std.specs.Prelude.{⊤}
use Rattle.std.specs.Borrow.{MutBor, RattleType}
use Rattle.std.specs.Io.BufRead.{Rests}
use mathlib.Core.Option.{none}

module _ {M : Type 1} {𝓤 : Ura M} (𝓛 : Logic 𝓤) (R : RattleType) (s : MutBor R.Denot) (P Q : R.Denot → Type 0) (less : (n : R.Denot) → P n → Q n) where
  rests_weaken : ent 𝓤 (sem 𝓛 (Rests R s P)) (sem 𝓛 (Rests R s Q))
  unfolding such_by
  rests_weaken = ex_e 𝓤 _ (λ x. ex_i 𝓤
      (λ (y : (p : (R.Denot → R.Denot) × R.Denot) × ((z : R.Denot) → ⊤) × Q p.1). sem 𝓛 (follows_by R.Denot R.Denot R.coded.code R.coded.code s.ghost_name none y.0.0 y.0.1))
      (x.0, x.1, less x.0.1 x.2))

  -- the same beside two facts
  pub facts_and_rests_weaken : (φ ψ : Type 0) → ent 𝓤 (sep 𝓤 (fact 𝓤 φ) (sep 𝓤 (fact 𝓤 ψ) (sem 𝓛 (Rests R s P)))) (sep 𝓤 (fact 𝓤 φ) (sep 𝓤 (fact 𝓤 ψ) (sem 𝓛 (Rests R s Q))))
  facts_and_rests_weaken φ ψ = mono_r 𝓤 (fact 𝓤 φ) (mono_r 𝓤 (fact 𝓤 ψ) rests_weaken)
