-- How far the groups of a file are matched: the words for the code's own steps.
use Rattle.std.specs.Prelude.{◌≡◌, ◌+◌, ◌≤◌, ℕ, Bool, List, [], ◌∷◌, ◌++◌, drop, length, slice_range}
use Rattle.std.specs.List.{All}
use Rattle.idl_lex.specs.declared.tokens.token.PlacedToken.{PlacedToken}
use Rattle.idl_text.specs.Jump.{IsJump, IsPassed, faults_in, faults_in_branches, faults_in_tree}
use Rattle.idl_text.specs.Line.{Directive, Line, Directed, lines_from}
use Rattle.idl_text.specs.Tree.{Tree, Forest, Branches}
use Rattle.idl_text.specs.TreeLaw.{AreFormed, Around, Inside, IsFormed, IsTreeFormed, lines_in_branches, lines_in_forest, lines_in_tree}
use Rattle.idl_text.specs.declared.groups.branch.BranchSpan.{BranchSpan}
use Rattle.idl_text.specs.declared.groups.branch.OpenBranch.{OpenBranch}
use Rattle.idl_text.specs.declared.groups.fault.GroupFault.{GroupFault}
use Rattle.idl_text.specs.declared.groups.matching.Matching.{Matching}
use Rattle.idl_text.specs.declared.groups.table.BranchTable.{BranchTable}

-- the lines from each place on
abbrev pub lines_at : List PlacedToken → ℕ → List Line
lines_at tokens at = lines_from (drop at tokens)

-- a branch in the table: with these lines from each place on, up to a place and with these faults
-- of the file so far
pub record IsSpan (lines : ℕ → List Line) (at : ℕ) (faults : List GroupFault) (span : BranchSpan)
    : Type 0 where
  pub order : span.from ≤ span.to
  pub within : span.to ≤ at
  pub faults_order : span.first_fault ≤ span.end_fault
  pub faults_within : span.end_fault ≤ length faults
  pub jump :
      IsJump span.has_else (lines span.from) (lines span.to)
      (slice_range faults span.first_fault span.end_fault)

-- the table of a file with these tokens
abbrev pub IsTableOf : List PlacedToken → BranchTable → Type 0
IsTableOf tokens table =
    All (IsSpan (lines_at tokens) (length tokens) table.faults.items) table.spans.items

-- the branch that was open, up to a place, with as many faults before that
abbrev pub span_of : OpenBranch → ℕ → ℕ → BranchSpan
span_of b to faults = record {
  from = b.from;
  to = to;
  first_fault = b.faults;
  end_fault = faults;
  has_else = b.has_else;
}

-- one tree from these lines on, wherever it may be, with these faults
pub record IsTree (lines rest : List Line) (faults : List GroupFault) : Type 0 where
  pub tree : Tree
  pub formed : (around : Around) → IsTreeFormed around tree rest
  pub is : lines_in_tree tree ++ rest ≡ lines
  pub told : faults_in_tree tree ≡ faults

-- A group that begins with these lines has come to its present branch, with these faults before
-- that: whatever the branch and those after it are, the group will be a tree.
abbrev pub IsBegun : List Line → List Line → Bool → List GroupFault → GroupFault → Type 0
IsBegun group branch has_else before unclosed =
    (f : Forest) (bs : Branches) (rest : List Line)
    → lines_in_forest f ++ (lines_in_branches bs ++ rest) ≡ branch
    → IsFormed (Inside has_else) f (lines_in_branches bs ++ rest) → AreFormed has_else bs rest
    → IsTree group rest (before ++ (faults_in f ++ faults_in_branches bs unclosed))

-- where the group of an open branch begins, and the faults that were found before the group, before
-- the branch, and in it
pub record Found : Type 0 where
  pub group : List Line
  pub outside : List GroupFault
  pub before : List GroupFault
  pub inside : List GroupFault

-- a branch is open here
pub record IsOpen (lines : ℕ → List Line) (here : List Line) (faults : List GroupFault)
    (b : OpenBranch) (found : Found) : Type 0 where
  pub all : found.outside ++ (found.before ++ found.inside) ≡ faults
  pub count : length found.outside + length found.before ≡ b.faults
  pub passed : IsPassed b.has_else (lines b.from) here found.inside
  pub begun : IsBegun found.group (lines b.from) b.has_else found.before b.unclosed

-- these branches are open here, the innermost first, each in the one after it
abbrev pub AreOpen : (ℕ → List Line) → List Line → List GroupFault → List OpenBranch → Type 0
AreOpen lines here faults [] = Unit {0}
AreOpen lines here faults (b ∷ bs) =
    (found : Found) × IsOpen lines here faults b found × AreOpen lines found.group found.outside bs

-- the groups are matched up to a place
pub record IsMatched (lines : ℕ → List Line) (at : ℕ) (branches : List OpenBranch)
    (spans : List BranchSpan) (faults : List GroupFault) : Type 0 where
  pub are_spans : All (IsSpan lines at faults) spans
  pub come : All (λ (b : OpenBranch). b.from ≤ at) branches
  pub are_open : AreOpen lines (lines at) faults branches

abbrev pub IsMatchedBy : (ℕ → List Line) → ℕ → Matching → Type 0
IsMatchedBy lines at m = IsMatched lines at m.branches m.spans.items m.faults.items

-- what was matched up to a directive is matched up to what comes after it
abbrev pub IsStep : Directive → ℕ → ℕ → Matching → Matching → Type 0
IsStep d at after old new =
    (lines : ℕ → List Line) → lines at ≡ Directed d ∷ lines after
    → IsMatchedBy lines at old → IsMatchedBy lines after new
