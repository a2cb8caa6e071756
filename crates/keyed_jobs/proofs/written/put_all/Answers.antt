use Rattle.std.proofs.Common.{◌≡◌, ℕ, ◌-◌, List, ◌++◌, length, take, drop, sym, ap, ◌∙◌, append_assoc, take-append-drop}
use Rattle.std.proofs.lemmas.List.{take_rest}
use Rattle.std.proofs.KnownBytes.{Appends-kept, Appends-trans}
use Rattle.keyed_jobs.proofs.written.put_all.Goals.{in-Ok, in-Err+else-ne}
use Rattle.keyed_jobs.proofs.written.put_all.Goals as goal

-- count more bytes of the rest are done
moves_front : (all done rest : List ℕ) (count : ℕ) → all ≡ done ++ rest → all ≡ (done ++ take count rest) ++ take (length rest - count) (drop count rest)
moves_front all done rest count e =
    e ∙ ap (λ l. done ++ l) (sym (take-append-drop count rest)) ∙ sym (append_assoc done (take count rest) (drop count rest))
    ∙ ap (λ l. (done ++ take count rest) ++ l) (sym (take_rest rest count))

pub loop-preserved : goal.loop-preserved
loop-preserved g c =
    let (done, split, appended) = c.loop.invariant in
    let rest = c.loop.rest.now in
    elim c.match-write.branch [
      | in-Ok w ↦ rw w.rest-is (done ++ take w.in-Ok.count rest, moves_front _ done rest w.in-Ok.count split, Appends-trans _ _ _ _ _ appended w.in-Ok.ensures.bytes)
      | in-Err+else-ne w ↦ rw w.rest-is (done, split, Appends-kept _ _ _ _ appended w.in-Err.ensures.bytes)
    ]
