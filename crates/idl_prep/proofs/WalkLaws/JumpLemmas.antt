-- A branch that isn't taken is jumped over.
use Rattle.std.proofs.Common.{◌≡◌, Bool, false, List, [], ◌∷◌, ◌++◌, Option, None, Some, ◌⊎◌, inl, inr, refl, ap, sym, subst, ◌∙◌}
use Rattle.idl_memo.specs.Query.{Tell, and_then}
use Rattle.idl_event.specs.Expanding.{Expanding}
use Rattle.idl_fault.specs.declared.file_name.FileName.{FileName}
use Rattle.idl_event.specs.declared.asked.key.RootAnswer.{RootAnswer}
use Rattle.idl_event.specs.declared.asked.key.RootKey.{RootKey}
use Rattle.idl_text.specs.Jump.{IsJump, IsNextOfGroup, fault_at, faults_in, faults_in_branches, faults_in_tree}
use Rattle.idl_text.specs.Line.{Directive, Line, Text, NullDirective, Directed}
use Rattle.idl_text.specs.Tree.{IsBranch, Tree, Leaf, Stray, Group as group_tree, Forest, Empty, Grow, Branches, Closed, Unclosed, Branch, Part, Closing, At, append, directive_before, part, close}
use Rattle.idl_text.specs.TreeLaw.{Inside}
use Rattle.idl_text.specs.declared.groups.fault.GroupFault.{GroupFault}
use Rattle.idl_text.specs.declared.groups.fault.Misplaced.TheVariants.{NotClosed}
use Rattle.idl_text.specs.declared.groups.kind.DirectiveKind.TheVariants.{Endif}
use Rattle.idl_text.proofs.TreeLemmas.{before-of_group, close-branch, close-endif, of_group-branch}
use Rattle.idl_text.proofs.TreeLawLemmas.{append-Empty, settled, settled-forest}
use Rattle.idl_prep.specs.Directive.{Enter}
use Rattle.idl_prep.specs.Pass.{coming, innermost, to_come, visit, visit_branches}
use Rattle.idl_prep.specs.State.{Said, Way, ended, onward}
use Rattle.idl_prep.specs.Told.{item_of, told}
use Rattle.idl_prep.specs.Walk.{opener_of, skip, skip_branches, skip_tree}
use Rattle.idl_prep.specs.declared.walk.groups.Group.{Group}
use Rattle.idl_prep.proofs.WalkLaws.WalkLemmas.{onward-then}

-- ---- skipped trees tell their faults, and nothing else

and_then-told : (file : FileName) (xs ys : List GroupFault) (s : Said) → and_then (told file xs s) (told file ys) ≡ told file (xs ++ ys) s
and_then-told file [] ys s = refl
and_then-told file (x ∷ xs) ys s = ap (Tell (item_of file x)) (and_then-told file xs ys s)

-- one after another
both : (file : FileName) (xs ys : List GroupFault) (q : Expanding Said) (f : Said → Expanding Said) (s : Said) → q ≡ told file xs s → ((s : Said) → f s ≡ told file ys s)
    → and_then q f ≡ told file (xs ++ ys) s
both file xs ys q f s p alike = (λ i. and_then (p i) (λ s'. alike s' i)) ∙ and_then-told file xs ys s

mutual
  unfolding skip faults_in

  skip_tree-told : (file : FileName) (t : Tree) (s : Said) → skip_tree file t s ≡ told file (faults_in_tree t) s
  skip_tree-told file (Leaf line) s = refl
  skip_tree-told file (Stray d) s = refl
  skip_tree-told file (group_tree d what f bs) s =
      both file (faults_in f) (faults_in_branches bs (fault_at NotClosed d)) (skip file f s) (skip_branches file bs (opener_of d)) s (skip-told file f s) (skip_branches-told file bs d)

  skip-told : (file : FileName) (f : Forest) (s : Said) → skip file f s ≡ told file (faults_in f) s
  skip-told file Empty s = refl
  skip-told file (Grow t f) s = both file (faults_in_tree t) (faults_in f) (skip_tree file t s) (skip file f) s (skip_tree-told file t s) (skip-told file f)

  skip_branches-told : (file : FileName) (bs : Branches) (d : Directive) (s : Said) → skip_branches file bs (opener_of d) s ≡ told file (faults_in_branches bs (fault_at NotClosed d)) s
  skip_branches-told file (Closed e) d s = refl
  skip_branches-told file Unclosed d s = refl
  skip_branches-told file (Branch e f bs) d s =
      both file (faults_in f) (faults_in_branches bs (fault_at NotClosed d)) (skip file f s) (skip_branches file bs (opener_of d)) s (skip-told file f s) (skip_branches-told file bs d)

-- ---- nothing of a branch is left where the group's next directive stands

body-directive : (has_else : Bool) (d : Directive) (p : Part) → (d.kind ≡ Endif) ⊎ ((has_else ≡ false) × IsBranch d.kind)
    → (settled (Inside has_else) (directive_before d.kind d p)).body ≡ Empty
body-directive has_else d p (inl ends) =
    ap (λ k. (settled (Inside has_else) (directive_before k d p)).body) ends ∙ ap (λ (c : Closing). c.body) (close-endif has_else d p ends)
body-directive has_else d p (inr branch) =
    ap (λ (q : Part). (settled (Inside has_else) q).body) (before-of_group d.kind d p (of_group-branch d.kind branch.1))
    ∙ ap (λ b. (settled (Inside b) (record { front = Empty; tail = At d p.front p.tail })).body) branch.0
    ∙ ap (λ (c : Closing). c.body) (close-branch d p branch.1)

body-next : (has_else : Bool) (rest : List Line) → IsNextOfGroup has_else rest → (settled (Inside has_else) (part rest)).body ≡ Empty
unfolding part close
body-next has_else [] next = refl
body-next has_else (Directed d ∷ rest) next = body-directive has_else d (part rest) next
body-next has_else (Text tokens ∷ rest) next = absurd next
body-next has_else (NullDirective line ∷ rest) next = absurd next

module _ (enter : Enter) (file : FileName) where
  -- what is to come of a branch that isn't taken
  coming-jump : (g : Group) (gs : List Group) (lines rest : List Line) (faults : List GroupFault) (s : Said) → g.is_active ≡ false → IsJump g.has_else lines rest faults
      → coming enter file (g ∷ gs) (part lines) s ≡ and_then (told file faults s) (coming enter file (g ∷ gs) (part rest))
  unfolding coming skip
  coming-jump g gs lines rest faults s skipped (passed, next) =
      let f = passed.between in
      let c : Closing = settled (Inside g.has_else) (part rest) in
      let after : Said → Expanding Said = λ s'. and_then (visit_branches enter file g c.branches s') (coming enter file gs c.after) in
      let inside : Closing → Expanding Said = λ c. and_then (visit enter file g.is_active c.body s) (λ s'. and_then (visit_branches enter file g c.branches s') (coming enter file gs c.after)) in
      let is : settled (Inside g.has_else) (part lines) ≡ record c { body = f } =
      ap (λ (ls : List Line). settled (Inside g.has_else) (part ls)) (sym passed.is)
      ∙ settled-forest (Inside g.has_else) f rest passed.formed
      ∙ ap (λ (b : Forest). record c { body = append f b }) (body-next g.has_else rest next)
      ∙ ap (λ (b : Forest). record c { body = b }) (append-Empty f) in
      ap inside is
      ∙ ap (λ b. and_then (visit enter file b f s) after) skipped
      ∙ ap (λ q. and_then q after) (skip-told file f s ∙ ap (λ xs. told file xs s) passed.told)
      ∙ (λ i. and_then (told file faults s) (λ s'. rest_of s' i))
    where
      rest_of : (s' : Said) → and_then (visit_branches enter file g (settled (Inside g.has_else) (part rest)).branches s') (coming enter file gs (settled (Inside g.has_else) (part rest)).after)
          ≡ coming enter file (g ∷ gs) (part rest) s'
      rest_of s' =
          let c : Closing = settled (Inside g.has_else) (part rest) in
          let after : Said → Expanding Said = λ s'. and_then (visit_branches enter file g c.branches s') (coming enter file gs c.after) in
          sym (ap (λ b. and_then (visit enter file b c.body s') after) skipped ∙ ap (λ (b : Forest). and_then (skip file b s') after) (body-next g.has_else rest next))

  -- where a root comes to once the faults are told
  to_come-inside : (bank : RootKey → Option RootAnswer) (g : Group) (gs : List Group) (lines rest : List Line) (faults : List GroupFault) (old new : Way) → g.is_active ≡ false → IsJump g.has_else lines rest faults
      → ended new ≡ onward bank (told file faults) old → to_come bank enter file (g ∷ gs) rest new ≡ to_come bank enter file (g ∷ gs) lines old
  to_come-inside bank g gs lines rest faults old new skipped jump came =
      onward-then bank (told file faults) (coming enter file (g ∷ gs) (part rest)) (coming enter file (g ∷ gs) (part lines)) old new came (coming-jump g gs lines rest faults old.state skipped jump)

  pub to_come-jump : (bank : RootKey → Option RootAnswer) (g : Group) (gs : List Group) (lines rest : List Line) (faults : List GroupFault) (old new : Way) → Some g ≡ innermost gs → g.is_active ≡ false
      → IsJump g.has_else lines rest faults → ended new ≡ onward bank (told file faults) old → to_come bank enter file gs rest new ≡ to_come bank enter file gs lines old
  to_come-jump bank g [] lines rest faults old new is skipped jump came = cc
  to_come-jump bank g (h ∷ gs) lines rest faults old new is skipped jump came =
      let same : g ≡ h = ap (λ (o : Option Group). elim o [ None ↦ h | Some x ↦ x ]) is in
      subst (λ (g : Group). to_come bank enter file (g ∷ gs) rest new ≡ to_come bank enter file (g ∷ gs) lines old) same (to_come-inside bank g gs lines rest faults old new skipped jump came)
