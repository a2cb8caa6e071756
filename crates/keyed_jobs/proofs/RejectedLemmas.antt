-- Changes that are parted, and a header that is turned twice.
use Rattle.std.proofs.Common.{◌≡◌, ◌∙◌, ◌∷◌, ◌++◌, List, [], Option, ap, sym}
use Rattle.std.specs.Option.{option_to_list}
use Rattle.std.specs.Prelude.{option_map}
use Rattle.eob_both.proofs.SideLemmas.{filter_map-push}
use Rattle.eob_joins.specs.Tables.{kept}
use Rattle.keyed_requests.specs.declared.request.Direction.{Direction}
use Rattle.keyed_requests.specs.declared.request.Direction.TheVariants.{Backward, Forward}
use Rattle.keyed_files.specs.Gone.{IsTurned}
use Rattle.keyed_files.specs.declared.source.Source.{Source}
use Rattle.keyed_jobs.specs.Rejected.{other_way}

-- one row more, and what is kept of it
pub kept-more : {K V W : Type 0} (f : V → Option W) (before after : List (K × W)) (rows : List (K × V)) (row : K × V) (put : Option (K × W))
    → before ≡ kept f rows → put ≡ option_map (λ w. (row.0, w)) (f row.1) → after ≡ before ++ option_to_list put → after ≡ kept f (rows ++ row ∷ [])
kept-more f before after rows row put known is puts =
    puts ∙ ap (λ l. l ++ option_to_list put) known ∙ ap (λ o. kept f rows ++ option_to_list o) is
    ∙ sym (filter_map-push (λ z. option_map (λ w. (z.0, w)) (f z.1)) rows row)

-- a source whose header says the other way which columns go
abbrev turned_about : {R : Type 0} → Source R → Source R
turned_about s = record s { header = record s.header { gone = s.header.came; came = s.header.gone } }

-- turned back, and then the other way, it is turned in the direction
pub turned-on : {R : Type 0} (direction : Direction) (a b d : Source R) → IsTurned Backward a b → IsTurned (other_way direction) b d → IsTurned direction a d
turned-on {R} Forward a b d back on = on ∙ ap {A = Source R} {B = Source R} turned_about back
turned-on Backward a b d back on = on ∙ back
