-- What makes trees those of their lines: each directive of a group is where it may be.
use Rattle.std.specs.Prelude.{◌≡◌, Bool, true, false, List, [], ◌∷◌, ◌++◌}
use Rattle.idl_text.specs.Line.{Line, Text, NullDirective, Directed}
use Rattle.idl_text.specs.Tree.{IsBranch, IsOfGroup, Tree, Leaf, Stray, Group, Forest, Empty, Grow, Branches, Closed, Unclosed, Branch, is_else}
use Rattle.idl_text.specs.declared.groups.kind.DirectiveKind.{DirectiveKind}
use Rattle.idl_text.specs.declared.groups.kind.DirectiveKind.TheVariants.{Alone, Opening, Endif}

-- the lines of a tree, from left to right
unfoldable mutual
  pub lines_in_tree : Tree → List Line
  lines_in_tree (Leaf line) = line ∷ []
  lines_in_tree (Stray d) = Directed d ∷ []
  lines_in_tree (Group d what f bs) = Directed d ∷ (lines_in_forest f ++ lines_in_branches bs)

  pub lines_in_forest : Forest → List Line
  lines_in_forest Empty = []
  lines_in_forest (Grow t f) = lines_in_tree t ++ lines_in_forest f

  pub lines_in_branches : Branches → List Line
  lines_in_branches (Closed d) = Directed d ∷ []
  lines_in_branches Unclosed = []
  lines_in_branches (Branch d f bs) = Directed d ∷ (lines_in_forest f ++ lines_in_branches bs)

-- a directive of no group
abbrev pub IsAlone : DirectiveKind → Type 0
IsAlone (Alone what) = Unit {0}
IsAlone other = ⊥

-- a line of no group's directives
abbrev pub IsLineAlone : Line → Type 0
IsLineAlone (Text tokens) = Unit {0}
IsLineAlone (NullDirective line) = Unit {0}
IsLineAlone (Directed d) = IsAlone d.kind

-- what is around a tree: no group, or a group, and whether the group's `else` is before the tree
pub data Around : Type 0 where
  Outside : Around
  Inside : Bool → Around

-- Which directives may be stray: outside every group any that belongs to one, and behind a group's
-- `else` those of another branch.
abbrev pub MayStray : Around → DirectiveKind → Type 0
MayStray Outside kind = IsOfGroup kind
MayStray (Inside true) kind = IsBranch kind
MayStray (Inside false) kind = ⊥

-- each directive is where it may be, with these lines after it in the file
unfoldable mutual
  -- a leaf belongs to no group, and a group opens with its test
  pub IsTreeFormed : Around → Tree → List Line → Type 0
  IsTreeFormed around (Leaf line) after = IsLineAlone line
  IsTreeFormed around (Stray d) after = MayStray around d.kind
  IsTreeFormed around (Group d what f bs) after =
      (d.kind ≡ Opening what) × IsFormed (Inside false) f (lines_in_branches bs ++ after)
      × AreFormed false bs after

  pub IsFormed : Around → Forest → List Line → Type 0
  IsFormed around Empty after = Unit {0}
  IsFormed around (Grow t f) after =
      IsTreeFormed around t (lines_in_forest f ++ after) × IsFormed around f after

  -- a group ends at an `endif`, or with the file, and no branch begins behind its `else`
  pub AreFormed : Bool → Branches → List Line → Type 0
  AreFormed has_else (Closed d) after = d.kind ≡ Endif
  AreFormed has_else Unclosed after = after ≡ []
  AreFormed has_else (Branch d f bs) after =
      (has_else ≡ false) × IsBranch d.kind
      × IsFormed (Inside (is_else d.kind)) f (lines_in_branches bs ++ after)
      × AreFormed (is_else d.kind) bs after
