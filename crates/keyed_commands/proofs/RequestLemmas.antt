-- Two facts of one outcome, and streams of no names.
use Rattle.std.proofs.Common.{◌≡◌, List, [], subst, sym}
use Rattle.std.specs.declared.result.Result.{Result}
use Rattle.std.specs.declared.result.Result.TheVariants.{Err, Ok}
use Rattle.std.specs.Prelude.{IfOk}
use Rattle.keyed_requests.specs.declared.overlays.NamedFile.{NamedFile}
use Rattle.keyed_commands.specs.Requested.{AreStreamsOf}

-- both hold of what is there
pub both-ok : {A E : Type 0} (outcome : Result A E) (P Q : A → Type 0) → IfOk outcome P → IfOk outcome Q → IfOk outcome (λ a. P a × Q a)
both-ok (Ok a) P Q p q = (p, q)
both-ok (Err e) P Q p q = tt

pub no-streams : (F I : Type 0) (names : List NamedFile) → names ≡ [] → AreStreamsOf {F = F} {I = I} names []
no-streams F I names e = subst (λ ns. AreStreamsOf {F = F} {I = I} ns []) (sym e) tt
