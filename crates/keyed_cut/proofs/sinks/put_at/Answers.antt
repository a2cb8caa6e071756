use Rattle.std.proofs.Common.{◌≡◌, ◌∙◌, [], ◌∷◌, refl, subst}
use Rattle.std.proofs.lemmas.Option.{get_or_from_slice_get}
use Rattle.csv.specs.Records.{fields_of}
use Rattle.keyed_text.specs.Streams.{PutsRows}
use Rattle.keyed_cut.specs.Partitioned.{fitted}
use Rattle.keyed_cut.proofs.sinks.put_at.Goals as goal

pub returns : goal.returns
returns g c = record {
  writer = c.put_fitted.new.writer;
  puts = λ before there.
      let same : c.index_mut.result.now ≡ before = c.index_mut.ensures.value ∙ get_or_from_slice_get c.args.writers.now.items c.args.place before c.index_mut.result.now there in
      subst (λ writer. PutsRows g.W.Write.contents writer c.put_fitted.new.writer (fitted c.args.count (fields_of c.args.row.now) ∷ [])) same c.in_ok-put_fitted.ensures;
  others = refl;
}
