-- What is still to be done of a file, inside the groups that are open.
use Rattle.std.specs.Prelude.{Bool, true, false, List, [], ◌∷◌, if◌then◌else◌, Option, None, Some}
use Rattle.idl_memo.specs.Query.{Done, and_then}
use Rattle.idl_event.specs.Expanding.{Expanding, Reached}
use Rattle.idl_fault.specs.declared.file_name.FileName.{FileName}
use Rattle.idl_event.specs.declared.asked.key.RootAnswer.{RootAnswer}
use Rattle.idl_event.specs.declared.asked.key.RootKey.{RootKey}
use Rattle.idl_text.specs.Line.{Line}
use Rattle.idl_text.specs.Tree.{Tree, Forest, Branches, Part, close, part, strays}
use Rattle.idl_prep.specs.Directive.{Enter}
use Rattle.idl_prep.specs.State.{Said, Way, onward}
use Rattle.idl_prep.specs.Walk.{skip, skip_branches, skip_tree, walk, walk_branches, walk_tree}
use Rattle.idl_prep.specs.declared.walk.groups.Group.{Group}
use Rattle.idl_prep.specs.declared.walk.groups.Opener.{Opener}
use Rattle.idl_prep.specs.declared.directives.inclusion.Inclusion.{Inclusion}

-- trees are walked, or skipped
abbrev pub visit : Enter → FileName → Bool → Forest → Said → Expanding Said
visit enter file active f s = if active then walk enter file f s else skip file f s

abbrev pub visit_tree : Enter → FileName → Bool → Tree → Said → Expanding Said
visit_tree enter file active t s = if active then walk_tree enter file t s else skip_tree file t s

-- the branches that follow of an open group
abbrev pub visit_branches : Enter → FileName → Group → Branches → Said → Expanding Said
visit_branches enter file g bs s =
    if g.is_live then walk_branches enter file bs g.opener g.is_taken s
    else skip_branches file bs g.opener s

-- What follows comes to this, inside these open groups, the innermost first: the innermost is
-- closed by what follows, and what comes after it follows inside the others.
unfoldable pub coming : Enter → FileName → List Group → Part → Said → Expanding Said
coming enter file [] p s = walk enter file (strays p.front p.tail) s
coming enter file (g ∷ gs) p s =
    let c = close g.has_else p.front p.tail in
    and_then (visit enter file g.is_active c.body s)
    (λ s'. and_then (visit_branches enter file g c.branches s') (coming enter file gs c.after))

-- where a root comes to by these lines, inside these open groups
abbrev pub to_come :
    (RootKey → Option RootAnswer) → Enter → FileName → List Group → List Line → Way → Reached × Option Said
to_come bank enter file gs lines way = onward bank (coming enter file gs (part lines)) way

-- a group that was opened so
abbrev pub begun : Opener → Bool → Bool → Group
begun opener live taken =
    record {
      opener = opener;
      is_live = live;
      is_taken = taken;
      is_active = taken;
      has_else = false;
    }

-- whether lines are walked inside these groups
abbrev pub is_walked : List Group → Bool
is_walked [] = true
is_walked (g ∷ gs) = g.is_active

-- what becomes of a file that is to be entered, if there is one
abbrev pub entered : Enter → Option Inclusion → Said → Expanding Said
entered enter None s = Done s
entered enter (Some i) s = enter i.place i.name i.file.now s

-- the innermost of these groups
abbrev pub innermost : List Group → Option Group
innermost [] = None
innermost (g ∷ gs) = Some g
