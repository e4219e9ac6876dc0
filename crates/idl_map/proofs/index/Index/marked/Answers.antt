use Rattle.std.proofs.Common.{◌<◌, ◌%◌, ◌^◌, ◌*◌, ◌-◌, ℕ, inl, inr, sym, subst}
use Rattle.idl_map.proofs.BitLemmas.{set_behind, set_first}
use Rattle.idl_map.proofs.BucketLemmas.{spot-at, spot-there, tag_of_some}
use Rattle.idl_map.proofs.index.Index.marked.Goals as goal

pub marked-marks-requires-clause-there : goal.marked-marks-requires-clause-there
marked-marks-requires-clause-there c = spot-there c.args.self.now c.args.spot c.requires.spot c.requires.sound

pub marked-marks-requires-clause-tag : goal.marked-marks-requires-clause-tag
marked-marks-requires-clause-tag c = subst (λ (t : ℕ). 0 < t) (sym c.requires.spot.tag) (tag_of_some c.args.spot.digest)

pub is_full-requires : goal.is_full-requires
is_full-requires c = spot-there c.args.self.now c.args.spot c.requires.spot c.requires.sound

pub returns-then-is_full : goal.returns-then-is_full
returns-then-is_full c slot i at = elim (spot-at c.args.self.now c.args.spot c.requires.spot slot i at) [
  | inl here ↦ set_first c.marked-marks.result (c.marked_beside.result * 2 ^ 16 % 2 ^ 64) slot (c.marked-marks.ensures.marked slot i here)
  | inr beside ↦
      set_behind c.marked-marks.result c.marked_beside.result slot c.marked_beside.ensures.small beside.0.1
      (c.marked_beside.ensures.marked c.requires.spot.part c.requires.spot.chosen (slot - 16) i beside.1)
]
