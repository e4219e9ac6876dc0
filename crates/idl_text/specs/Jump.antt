-- Branches of groups that aren't taken: how far they go, and the faults of groups in them, which
-- are told all the same.
use Rattle.std.specs.Prelude.{◌≡◌, ◌⊎◌, Bool, false, List, [], ◌∷◌, ◌++◌}
use Rattle.idl_text.specs.Line.{Directive, Line, Text, NullDirective, Directed}
use Rattle.idl_text.specs.Tree.{IsBranch, Tree, Leaf, Stray, Group, Forest, Empty, Grow, Branches, Closed, Unclosed, Branch}
use Rattle.idl_text.specs.TreeLaw.{Inside, IsFormed, lines_in_forest}
use Rattle.idl_text.specs.declared.groups.fault.GroupFault.{GroupFault}
use Rattle.idl_text.specs.declared.groups.fault.Misplaced.{Misplaced}
use Rattle.idl_text.specs.declared.groups.fault.Misplaced.TheVariants.{OutOfPlace, NotClosed}
use Rattle.idl_text.specs.declared.groups.kind.DirectiveKind.TheVariants.{Endif}

-- a fault that is told at a directive
abbrev pub fault_at : Misplaced → Directive → GroupFault
fault_at what d = record { what = what; line = d.line; word = d.word.token }

-- The faults of trees that are skipped, from left to right: a directive that is out of place, and
-- behind its branches a group that isn't closed.
unfoldable mutual
  pub faults_in_tree : Tree → List GroupFault
  faults_in_tree (Leaf line) = []
  faults_in_tree (Stray d) = fault_at OutOfPlace d ∷ []
  faults_in_tree (Group d what f bs) = faults_in f ++ faults_in_branches bs (fault_at NotClosed d)

  pub faults_in : Forest → List GroupFault
  faults_in Empty = []
  faults_in (Grow t f) = faults_in_tree t ++ faults_in f

  -- of branches whose group has this fault where it isn't closed
  pub faults_in_branches : Branches → GroupFault → List GroupFault
  faults_in_branches (Closed d) unclosed = []
  faults_in_branches Unclosed unclosed = unclosed ∷ []
  faults_in_branches (Branch d f bs) unclosed = faults_in f ++ faults_in_branches bs unclosed

-- From these lines to the rest there are whole trees, inside a group whose `else` came before them
-- or didn't, with these faults.
pub record IsPassed (has_else : Bool) (lines rest : List Line) (faults : List GroupFault)
    : Type 0 where
  pub between : Forest
  pub formed : IsFormed (Inside has_else) between rest
  pub is : lines_in_forest between ++ rest ≡ lines
  pub told : faults_in between ≡ faults

-- a directive first with which the group goes on or ends, or the file's end
abbrev pub IsNextOfGroup : Bool → List Line → Type 0
IsNextOfGroup has_else [] = Unit {0}
IsNextOfGroup has_else (Text tokens ∷ rest) = ⊥
IsNextOfGroup has_else (NullDirective line ∷ rest) = ⊥
IsNextOfGroup has_else (Directed d ∷ rest) =
    (d.kind ≡ Endif) ⊎ ((has_else ≡ false) × IsBranch d.kind)

-- the branch of a group that begins with these lines goes to the rest, and has these faults in it
abbrev pub IsJump : Bool → List Line → List Line → List GroupFault → Type 0
IsJump has_else lines rest faults =
    IsPassed has_else lines rest faults × IsNextOfGroup has_else rest
