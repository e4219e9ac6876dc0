-- What is still to be done of a file inside open groups, by its next line.
use Rattle.std.proofs.Common.{◌≡◌, Bool, true, false, if◌then◌else◌, ◌||◌, List, [], ◌∷◌, refl, ap, sym, subst, ◌∙◌}
use Rattle.idl_memo.specs.Query.{Done, Tell, and_then}
use Rattle.idl_event.specs.Expanding.{Expanding}
use Rattle.idl_fault.specs.declared.file_name.FileName.{FileName}
use Rattle.idl_event.specs.declared.told.event.Item.TheVariants.{Turn}
use Rattle.idl_text.specs.Line.{Directive, Line, Directed}
use Rattle.idl_text.specs.Tree.{IsBranch, IsOfGroup, Tree, Leaf, Stray, Group as group_tree, Forest, Empty, Grow, Branches, Closed, Unclosed, Branch, Part, Closing, AtEnd, At, before, close, directive_before, grown, is_else, part}
use Rattle.idl_text.specs.declared.groups.kind.DirectiveKind.{DirectiveKind}
use Rattle.idl_text.specs.declared.groups.kind.DirectiveKind.TheVariants.{Opening, Endif}
use Rattle.idl_text.specs.declared.groups.kind.Test.{Test}
use Rattle.idl_text.proofs.TreeLemmas.{before-of_group, body_grown, close-Grow, close-branch, close-endif, close-stray, of_group-branch, strays-Grow}
use Rattle.idl_prep.specs.Directive.{Enter, effect, test}
use Rattle.idl_prep.specs.Place.{place_in}
use Rattle.idl_prep.specs.Pass.{begun, coming, is_walked, visit, visit_branches, visit_tree}
use Rattle.idl_prep.specs.State.{Said}
use Rattle.idl_prep.specs.Walk.{decision, not_closed, opener_of, skip, skip_branches, walk, walk_branches}
use Rattle.idl_prep.specs.declared.walk.groups.Group.{Group}
use Rattle.idl_prep.proofs.WalkLaws.StepLemmas.{and_then-alike, and_then-and_then}

-- a group in which another branch began so
abbrev pub continued : Group → Bool → Bool → Bool → Group
continued g taken active has_else = record { opener = g.opener; is_live = g.is_live; is_taken = taken; is_active = active; has_else = has_else }

module _ (enter : Enter) (file : FileName) where
  visit-Grow : (active : Bool) (t : Tree) (f : Forest) (s : Said) → visit enter file active (Grow t f) s ≡ and_then (visit_tree enter file active t s) (visit enter file active f)
  unfolding walk skip
  visit-Grow true t f s = refl
  visit-Grow false t f s = refl

  visit-Empty : (active : Bool) (s : Said) → visit enter file active Empty s ≡ Done s
  unfolding walk skip
  visit-Empty true s = refl
  visit-Empty false s = refl

  -- the branches of a group, and what comes after it
  abbrev closing : Group → List Group → Closing → Said → Expanding Said
  closing g gs c s = and_then (visit_branches enter file g c.branches s) (coming enter file gs c.after)

  -- inside a group that is closed so
  abbrev inside : Group → List Group → Closing → Said → Expanding Said
  inside g gs c s = and_then (visit enter file g.is_active c.body s) (closing g gs c)

  inside-body_grown : (g : Group) (gs : List Group) (t : Tree) (c : Closing) (s : Said) → inside g gs (body_grown t c) s ≡ and_then (visit_tree enter file g.is_active t s) (inside g gs c)
  inside-body_grown g gs t c s =
      ap (λ q. and_then q (closing g gs c)) (visit-Grow g.is_active t c.body s)
      ∙ and_then-and_then (visit_tree enter file g.is_active t s) (visit enter file g.is_active c.body) (closing g gs c)

  -- a tree comes first
  pub coming-grown : (gs : List Group) (t : Tree) (p : Part) (s : Said) → coming enter file gs (grown t p) s ≡ and_then (visit_tree enter file (is_walked gs) t s) (coming enter file gs p)
  unfolding coming walk
  coming-grown [] t p s = ap (λ f. walk enter file f s) (strays-Grow t p.front p.tail)
  coming-grown (g ∷ gs) t p s =
      ap (λ c. inside g gs c s) (close-Grow g.has_else t p.front p.tail) ∙ inside-body_grown g gs t (close g.has_else p.front p.tail) s

  -- ---- a line that belongs to no group

  pub coming-act : (gs : List Group) (l : Line) (lines : List Line) (s : Said) → before l (part lines) ≡ grown (Leaf l) (part lines) → is_walked gs ≡ true
      → coming enter file gs (part (l ∷ lines)) s ≡ and_then (effect enter file l s) (coming enter file gs (part lines))
  unfolding part walk
  coming-act gs l lines s alone walked =
      ap (λ p. coming enter file gs p s) alone
      ∙ coming-grown gs (Leaf l) (part lines) s
      ∙ ap (λ b. and_then (visit_tree enter file b (Leaf l) s) (coming enter file gs (part lines))) walked

  pub coming-skipped : (gs : List Group) (l : Line) (lines : List Line) (s : Said) → before l (part lines) ≡ grown (Leaf l) (part lines) → is_walked gs ≡ false
      → coming enter file gs (part (l ∷ lines)) s ≡ coming enter file gs (part lines) s
  unfolding part skip
  coming-skipped gs l lines s alone skipped =
      ap (λ p. coming enter file gs p s) alone
      ∙ coming-grown gs (Leaf l) (part lines) s
      ∙ ap (λ b. and_then (visit_tree enter file b (Leaf l) s) (coming enter file gs (part lines))) skipped

  -- ---- a group begins

  coming-group : (gs : List Group) (d : Directive) (what : Test) (lines : List Line) (s : Said) → d.kind ≡ Opening what
      → let c = close false (part lines).front (part lines).tail in
      coming enter file gs (part (Directed d ∷ lines)) s ≡ and_then (visit_tree enter file (is_walked gs) (group_tree d what c.body c.branches) s) (coming enter file gs c.after)
  unfolding part
  coming-group gs d what lines s opens =
      let c = close false (part lines).front (part lines).tail in
      ap (λ k. coming enter file gs (directive_before k d (part lines)) s) opens ∙ coming-grown gs (group_tree d what c.body c.branches) c.after s

  pub coming-opening : (gs : List Group) (d : Directive) (what : Test) (lines : List Line) (s : Said) → d.kind ≡ Opening what → is_walked gs ≡ true
      → coming enter file gs (part (Directed d ∷ lines)) s ≡ Tell (Turn (place_in file d)) (and_then (test file d what s) (λ b. coming enter file (begun (opener_of d) true b ∷ gs) (part lines) s))
  unfolding coming walk
  coming-opening gs d what lines s opens walked =
      let c = close false (part lines).front (part lines).tail in
      let branches = λ (b : Bool). walk_branches enter file c.branches (opener_of d) b in
      let body = λ (b : Bool). visit enter file b c.body s in
      coming-group gs d what lines s opens
      ∙ ap (λ b. and_then (visit_tree enter file b (group_tree d what c.body c.branches) s) (coming enter file gs c.after)) walked
      ∙ ap (Tell (Turn (place_in file d))) (and_then-and_then (test file d what s) (λ b. and_then (body b) (branches b)) (coming enter file gs c.after)
      ∙ and_then-alike (test file d what s) (λ b. and_then (and_then (body b) (branches b)) (coming enter file gs c.after)) (λ b. coming enter file (begun (opener_of d) true b ∷ gs) (part lines) s)
      (λ b. and_then-and_then (body b) (branches b) (coming enter file gs c.after)))

  pub coming-opening-skipped : (gs : List Group) (d : Directive) (what : Test) (lines : List Line) (s : Said) → d.kind ≡ Opening what → is_walked gs ≡ false
      → coming enter file gs (part (Directed d ∷ lines)) s ≡ coming enter file (begun (opener_of d) false false ∷ gs) (part lines) s
  unfolding coming skip
  coming-opening-skipped gs d what lines s opens skipped =
      let c = close false (part lines).front (part lines).tail in
      coming-group gs d what lines s opens
      ∙ ap (λ b. and_then (visit_tree enter file b (group_tree d what c.body c.branches) s) (coming enter file gs c.after)) skipped
      ∙ and_then-and_then (skip file c.body s) (skip_branches file c.branches (opener_of d)) (coming enter file gs c.after)

  -- ---- a directive of the innermost group

  coming-of_group : (g : Group) (gs : List Group) (d : Directive) (lines : List Line) (s : Said) → IsOfGroup d.kind
      → coming enter file (g ∷ gs) (part (Directed d ∷ lines)) s ≡ inside g gs (close g.has_else Empty (At d (part lines).front (part lines).tail)) s
  unfolding part coming
  coming-of_group g gs d lines s of = ap (λ p. coming enter file (g ∷ gs) p s) (before-of_group d.kind d (part lines) of)

  inside-Empty : (g : Group) (gs : List Group) (bs : Branches) (p : Part) (s : Said)
      → inside g gs (record { body = Empty; branches = bs; after = p }) s ≡ and_then (visit_branches enter file g bs s) (coming enter file gs p)
  inside-Empty g gs bs p s = ap (λ q. and_then q (closing g gs (record { body = Empty; branches = bs; after = p }))) (visit-Empty g.is_active s)

  of_group-endif : (k : DirectiveKind) → k ≡ Endif → IsOfGroup k
  of_group-endif k e = let P : DirectiveKind → Type 0 = λ k. IsOfGroup k in subst P (sym e) tt

  -- the group ends
  coming-Endif : (g : Group) (gs : List Group) (d : Directive) (lines : List Line) (s : Said) → d.kind ≡ Endif
      → coming enter file (g ∷ gs) (part (Directed d ∷ lines)) s ≡ and_then (visit_branches enter file g (Closed d) s) (coming enter file gs (part lines))
  coming-Endif g gs d lines s ends =
      coming-of_group g gs d lines s (of_group-endif d.kind ends)
      ∙ ap (λ c. inside g gs c s) (close-endif g.has_else d (part lines) ends)
      ∙ inside-Empty g gs (Closed d) (part lines) s

  pub coming-endif : (g : Group) (gs : List Group) (d : Directive) (lines : List Line) (s : Said) → d.kind ≡ Endif → g.is_live ≡ true
      → coming enter file (g ∷ gs) (part (Directed d ∷ lines)) s ≡ Tell (Turn (place_in file d)) (coming enter file gs (part lines) s)
  unfolding walk
  coming-endif g gs d lines s ends live =
      coming-Endif g gs d lines s ends
      ∙ ap (λ b. and_then (if b then walk_branches enter file (Closed d) g.opener g.is_taken s else skip_branches file (Closed d) g.opener s) (coming enter file gs (part lines))) live

  pub coming-endif-skipped : (g : Group) (gs : List Group) (d : Directive) (lines : List Line) (s : Said) → d.kind ≡ Endif → g.is_live ≡ false
      → coming enter file (g ∷ gs) (part (Directed d ∷ lines)) s ≡ coming enter file gs (part lines) s
  unfolding skip
  coming-endif-skipped g gs d lines s ends dead =
      coming-Endif g gs d lines s ends
      ∙ ap (λ b. and_then (if b then walk_branches enter file (Closed d) g.opener g.is_taken s else skip_branches file (Closed d) g.opener s) (coming enter file gs (part lines))) dead

  -- another branch would begin after its `else`
  pub coming-stray : (g : Group) (gs : List Group) (d : Directive) (lines : List Line) (s : Said) → IsBranch d.kind → g.has_else ≡ true
      → coming enter file (g ∷ gs) (part (Directed d ∷ lines)) s ≡ and_then (visit_tree enter file g.is_active (Stray d) s) (coming enter file (g ∷ gs) (part lines))
  unfolding coming
  coming-stray g gs d lines s branch has_else =
      let p = part lines in
      coming-of_group g gs d lines s (of_group-branch d.kind branch)
      ∙ ap (λ b. inside g gs (close b Empty (At d p.front p.tail)) s) has_else
      ∙ ap (λ c. inside g gs c s) (close-stray d p branch)
      ∙ ap (λ b. inside g gs (body_grown (Stray d) (close b p.front p.tail)) s) (sym has_else)
      ∙ inside-body_grown g gs (Stray d) (close g.has_else p.front p.tail) s

  -- another branch begins
  coming-Branch : (g : Group) (gs : List Group) (d : Directive) (lines : List Line) (s : Said) → IsBranch d.kind → g.has_else ≡ false
      → let c = close (is_else d.kind) (part lines).front (part lines).tail in
      coming enter file (g ∷ gs) (part (Directed d ∷ lines)) s ≡ and_then (visit_branches enter file g (Branch d c.body c.branches) s) (coming enter file gs c.after)
  coming-Branch g gs d lines s branch no_else =
      let p = part lines in
      let c = close (is_else d.kind) p.front p.tail in
      coming-of_group g gs d lines s (of_group-branch d.kind branch)
      ∙ ap (λ b. inside g gs (close b Empty (At d p.front p.tail)) s) no_else
      ∙ ap (λ c. inside g gs c s) (close-branch d p branch)
      ∙ inside-Empty g gs (Branch d c.body c.branches) c.after s

  pub coming-branch : (g : Group) (gs : List Group) (d : Directive) (lines : List Line) (s : Said) → IsBranch d.kind → g.has_else ≡ false → g.is_live ≡ true
      → coming enter file (g ∷ gs) (part (Directed d ∷ lines)) s
      ≡ Tell (Turn (place_in file d)) (and_then (decision file d g.is_taken s) (λ b. coming enter file (continued g (g.is_taken || b) b (is_else d.kind) ∷ gs) (part lines) s))
  unfolding coming walk
  coming-branch g gs d lines s branch no_else live =
      let c = close (is_else d.kind) (part lines).front (part lines).tail in
      let after = coming enter file gs c.after in
      let branches = λ (b : Bool). walk_branches enter file c.branches g.opener (g.is_taken || b) in
      let body = λ (b : Bool). visit enter file b c.body s in
      let later = Branch d c.body c.branches in
      coming-Branch g gs d lines s branch no_else
      ∙ ap (λ b. and_then (if b then walk_branches enter file later g.opener g.is_taken s else skip_branches file later g.opener s) after) live
      ∙ ap (Tell (Turn (place_in file d))) (and_then-and_then (decision file d g.is_taken s) (λ b. and_then (body b) (branches b)) after
      ∙ and_then-alike (decision file d g.is_taken s) (λ b. and_then (and_then (body b) (branches b)) after) (λ b. coming enter file (continued g (g.is_taken || b) b (is_else d.kind) ∷ gs) (part lines) s)
      (λ b. and_then-and_then (body b) (branches b) after
      ∙ ap (λ l. and_then (body b) (λ s'. and_then (if l then branches b s' else skip_branches file c.branches g.opener s') after)) (sym live)))

  pub coming-branch-skipped : (g : Group) (gs : List Group) (d : Directive) (lines : List Line) (s : Said) → IsBranch d.kind → g.has_else ≡ false → g.is_live ≡ false
      → coming enter file (g ∷ gs) (part (Directed d ∷ lines)) s ≡ coming enter file (continued g g.is_taken false (is_else d.kind) ∷ gs) (part lines) s
  unfolding coming skip
  coming-branch-skipped g gs d lines s branch no_else dead =
      let c = close (is_else d.kind) (part lines).front (part lines).tail in
      let after = coming enter file gs c.after in
      let later = Branch d c.body c.branches in
      coming-Branch g gs d lines s branch no_else
      ∙ ap (λ b. and_then (if b then walk_branches enter file later g.opener g.is_taken s else skip_branches file later g.opener s) after) dead
      ∙ and_then-and_then (skip file c.body s) (skip_branches file c.branches g.opener) after
      ∙ ap (λ l. and_then (skip file c.body s) (λ s'. and_then (if l then walk_branches enter file c.branches g.opener g.is_taken s' else skip_branches file c.branches g.opener s') after)) (sym dead)

  -- ---- no group is open

  pub coming-stray-outside : (d : Directive) (lines : List Line) (s : Said) → IsOfGroup d.kind
      → coming enter file [] (part (Directed d ∷ lines)) s ≡ and_then (visit_tree enter file true (Stray d) s) (coming enter file [] (part lines))
  unfolding part coming walk
  coming-stray-outside d lines s of = ap (λ p. coming enter file [] p s) (before-of_group d.kind d (part lines) of)

  -- ---- the file ends

  unclosed : (b : Bool) (g : Group) (s : Said)
      → (if b then walk_branches enter file Unclosed g.opener g.is_taken s else skip_branches file Unclosed g.opener s) ≡ Tell (not_closed file g.opener) (Done s)
  unfolding walk skip
  unclosed true g s = refl
  unclosed false g s = refl

  pub coming-unclosed : (g : Group) (gs : List Group) (s : Said) → coming enter file (g ∷ gs) (part []) s ≡ Tell (not_closed file g.opener) (coming enter file gs (part []) s)
  unfolding part coming close
  coming-unclosed g gs s =
      inside-Empty g gs Unclosed (record { front = Empty; tail = AtEnd }) s
      ∙ ap (λ q. and_then q (coming enter file gs (record { front = Empty; tail = AtEnd }))) (unclosed g.is_live g s)

  pub coming-nothing : (s : Said) → coming enter file [] (part []) s ≡ Done s
  unfolding part coming walk
  coming-nothing s = refl
