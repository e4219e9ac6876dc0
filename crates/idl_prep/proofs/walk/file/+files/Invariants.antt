use Rattle.std.proofs.Common.{◌≡◌, ◌+◌, ◌*◌, length, map}
use Rattle.idl_lex.specs.tokens.Tokens.{lines_of}
use Rattle.idl_text.specs.Line.{read}
use Rattle.idl_prep.specs.Pass.{to_come}
use Rattle.idl_prep.specs.Root.{enter, walk_file}
use Rattle.idl_prep.specs.State.{onward}
use Rattle.idl_prep.proofs.walk.file.+files.Given as goal

abbrev pub decreases-enter_file : goal.decreases-enter_file
decreases-enter_file g l = 2 * l.room

abbrev pub decreases-walk_file : goal.decreases-walk_file
decreases-walk_file g l = 2 * l.room + 1

abbrev pub invariant-walk_file-lines : goal.invariant-walk_file-lines
invariant-walk_file-lines g l =
    to_come (g.B.Bank.at l.site.bank.now) (enter l.room) l.site.file.now l.groups (map read (lines_of l.left)) l.root
    ≡ onward (g.B.Bank.at l.site.bank.now) (walk_file (enter l.room) l.site.file.now l.file) l.fn.root

abbrev pub decreases-walk_file-lines : goal.decreases-walk_file-lines
decreases-walk_file-lines g l = length l.left
