use Rattle.std.proofs.Common.{◌≡◌, ◌%◌, ℕ, inl, inr, length, sym, ap, subst, ◌∙◌, arith, slice_get}
use Rattle.idl_map.proofs.TableLemmas.{slice_get-push}
use Rattle.idl_map.specs.Buckets.{FindsIn, IsIndexed}
use Rattle.idl_map.proofs.index.Index.push.Goals as goal
use Rattle.idl_map.proofs.index.Index.push.Goals.{then-place-via-then-place, then-place-via-else-place+in_ok-find_room+then-not-branch}

pub returns-then-place-clause-sound : goal.returns-then-place-clause-sound
returns-then-place-clause-sound c = elim c.then-place.branch [
  | then-place-via-then-place w ↦ subst IsIndexed (sym w.self-is) c.requires.sound
  | then-place-via-else-place+in_ok-find_room+then-not-branch w ↦ subst IsIndexed (sym w.self-is) w.find_room.ensures.sound
]

pub returns-clause-sound : goal.returns-clause-sound
returns-clause-sound c =
    let index = c.find_room.new.self in
    let digests = index.digests.items in
    let digest = c.args.spot.digest in
    let last : c.len-place.result ≡ length digests =
    omega (arith, c.len-place.ensures, ap length c.find_room.ensures.digests) in
    record {
      parts = c.find_room.ensures.sound.parts;
      there = c.find_room.ensures.sound.there;
      finds = λ d i at part is. elim (slice_get-push digests digest d i (ap (λ ds. slice_get ds i) (sym c.in_ok-push.ensures.items) ∙ at)) [
        | inl there ↦ c.find_room.ensures.sound.finds d i there part is
        | inr here ↦
            subst (λ (n : ℕ). FindsIn part index.buckets n i) here.1
            (subst (λ (n : ℕ). FindsIn part index.buckets digest n) (last ∙ sym here.0)
            (c.in_ok-find_room.ensures.found c.if-not-branch.false part (ap (λ n. slice_get index.parts.items (n % 64)) here.1 ∙ is)))
      ];
    }
