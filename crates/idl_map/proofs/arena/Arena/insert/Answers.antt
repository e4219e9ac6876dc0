use Rattle.std.proofs.Common.{◌≡◌, Some, slice_get, sym, ap, ◌∙◌, arith}
use Rattle.std.specs.Map.{keys_of}
use Rattle.std.specs.Int.{bit_at}
use Rattle.std.proofs.lemmas.Nat.Bits.{bit_at-zero}
use Rattle.idl_base.proofs.Exactness.{Decides-eq}
use Rattle.idl_map.proofs.TableLemmas.{lookup-nowhere}
use Rattle.idl_map.proofs.BucketLemmas.{spot-stands}
use Rattle.idl_map.proofs.PlaceLemmas.{digest-at}
use Rattle.idl_map.proofs.arena.Arena.insert.Goals as goal

pub push-requires-clause-absent : goal.push-requires-clause-absent
push-requires-clause-absent g c =
    let arena = c.args.self.now in
    let keys = keys_of arena.entries.items in
    let key = c.args.key in
    lookup-nowhere g.K.PartialEq.eq (Decides-eq g.K.PartialEq.eq g.met.K.Eq.laws g.met.K.Datum.same) arena.entries.items key
    (λ i at.
    let digest : slice_get arena.index.digests.items i ≡ Some c.spot_of-spot.result.digest =
    digest-at g.K.Digest.digest_of arena.index.digests.items keys i key c.requires.digests at ∙ ap Some (sym (c.spot_of-spot.ensures.digest ∙ c.digest.ensures)) in
    let found = spot-stands arena.index c.spot_of-spot.result c.spot_of-spot.ensures.spot c.requires.indexed i digest in
    let marked : bit_at c.marked.result found.0 ≡ 1 = c.marked.ensures found.0 i found.1 in
    let none : bit_at c.marked.result found.0 ≡ 0 = ap (λ m. bit_at m found.0) c.if-marked-eq0.true ∙ bit_at-zero found.0 in
    absurd (omega (arith, none, marked)))
