-- The lines of a file as a tree (after ISO/IEC 9899, 6.10, `group` and `if-section`). `TreeLaw`
-- says which tree that is, however it is made.
use Rattle.std.specs.Prelude.{Bool, true, false, List, [], ◌∷◌, if◌then◌else◌}
use Rattle.idl_text.specs.Line.{Directive, Line, Text, NullDirective, Directed}
use Rattle.idl_text.specs.declared.groups.kind.DirectiveKind.{DirectiveKind}
use Rattle.idl_text.specs.declared.groups.kind.DirectiveKind.TheVariants.{Alone, Opening, Elif, Else, Endif}
use Rattle.idl_text.specs.declared.groups.kind.Test.{Test}

mutual
  -- a line of its own, a directive of a group that stands in none, or a group: its opening
  -- directive with its test, what follows it, and its branches
  pub data Tree : Type 0 where
    Leaf : Line → Tree
    Stray : Directive → Tree
    Group : Directive → Test → Forest → Branches → Tree

  pub data Forest : Type 0 where
    Empty : Forest
    Grow : Tree → Forest → Forest

  -- how a group goes on: it is closed, or goes to the file's end, or another branch follows
  pub data Branches : Type 0 where
    Closed : Directive → Branches
    Unclosed : Branches
    Branch : Directive → Forest → Branches → Branches

-- what follows a forest: the file's end, or a directive that belongs to a group around it, and what
-- follows that
pub data Tail : Type 0 where
  AtEnd : Tail
  At : Directive → Forest → Tail → Tail

-- the end of a file, from some line on
pub record Part : Type 0 where
  pub front : Forest
  pub tail : Tail

-- a group's body, its branches, and what follows the group
pub record Closing : Type 0 where
  pub body : Forest
  pub branches : Branches
  pub after : Part

abbrev pub append : Forest → Forest → Forest
append Empty g = g
append (Grow t f) g = Grow t (append f g)

abbrev pub is_endif : DirectiveKind → Bool
is_endif Endif = true
is_endif other = false

abbrev pub is_else : DirectiveKind → Bool
is_else Else = true
is_else other = false

-- another branch of a group begins
abbrev pub IsBranch : DirectiveKind → Type 0
IsBranch Elif = Unit {0}
IsBranch Else = Unit {0}
IsBranch other = ⊥

-- a group goes on, or ends
abbrev pub IsOfGroup : DirectiveKind → Type 0
IsOfGroup Elif = Unit {0}
IsOfGroup Else = Unit {0}
IsOfGroup Endif = Unit {0}
IsOfGroup other = ⊥

-- The group that was opened before this part: it goes to its `endif`, or to the file's end. After
-- its `else` another `else` or `elif` is a stray line of the last branch.
unfoldable pub close : Bool → Forest → Tail → Closing
close has_else body AtEnd =
    record { body = body; branches = Unclosed; after = record { front = Empty; tail = AtEnd } }
close has_else body (At d front tail) =
    if is_endif d.kind
    then record { body = body; branches = Closed d; after = record { front = front; tail = tail } }
    else (if has_else then close has_else (append body (Grow (Stray d) front)) tail
    else (let next = close (is_else d.kind) front tail in
    record { body = body; branches = Branch d next.body next.branches; after = next.after }))

-- a tree before a part
abbrev pub grown : Tree → Part → Part
grown t p = record { front = Grow t p.front; tail = p.tail }

-- a group before what follows it
abbrev pub group_before : Directive → Test → Closing → Part
group_before d what c =
    record { front = Grow (Group d what c.body c.branches) c.after.front; tail = c.after.tail }

-- a directive before a part, by its kind
abbrev pub directive_before : DirectiveKind → Directive → Part → Part
directive_before (Alone what) d p = grown (Leaf (Directed d)) p
directive_before (Opening what) d p = group_before d what (close false p.front p.tail)
directive_before Elif d p = record { front = Empty; tail = At d p.front p.tail }
directive_before Else d p = record { front = Empty; tail = At d p.front p.tail }
directive_before Endif d p = record { front = Empty; tail = At d p.front p.tail }

-- a line before a part
abbrev pub before : Line → Part → Part
before (Text tokens) p = grown (Leaf (Text tokens)) p
before (NullDirective line) p = grown (Leaf (NullDirective line)) p
before (Directed d) p = directive_before d.kind d p

unfoldable pub part : List Line → Part
part [] = record { front = Empty; tail = AtEnd }
part (l ∷ ls) = before l (part ls)

-- no group is around a file: each directive that belongs to one is stray
abbrev pub strays : Forest → Tail → Forest
strays f AtEnd = f
strays f (At d front tail) = append f (Grow (Stray d) (strays front tail))

-- the tree of a file
unfoldable pub tree : List Line → Forest
tree lines = strays (part lines).front (part lines).tail
