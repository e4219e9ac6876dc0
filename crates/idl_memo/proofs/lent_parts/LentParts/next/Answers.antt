-- However the entries are held: those of the part that is passed stood in front.
use Rattle.std.proofs.Common.{arith}
use Rattle.std.proofs.lemmas.Grind.{common_steps}
use Rattle.idl_memo.proofs.lent_parts.LentParts.next.Goals as goal
use Rattle.idl_memo.proofs.lent_parts.LentParts.next.Goals.{in-Plain+in_ok-first-in-Plain, in-Parted+in_ok-first-in-Parted, in-Dated+in_ok-key-in-Dated}

pub returns-clause-first : goal.returns-clause-first
returns-clause-first g c =
    elim c.match-self.branch [
      | in-Plain+in_ok-first-in-Plain w ↦ rw (w.result-is, w.self-inside-is) (grind (arith, common_steps))
      | in-Parted+in_ok-first-in-Parted w ↦ rw (w.result-is, w.self-inside-is) (grind (arith, common_steps))
      | in-Dated+in_ok-key-in-Dated w ↦ rw (w.result-is, w.self-inside-is) (grind (arith, common_steps))
    ]
