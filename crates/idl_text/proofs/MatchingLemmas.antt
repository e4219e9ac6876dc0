-- The groups that are open, by the next line.
use Rattle.std.proofs.Common.{◌≡◌, ◌+◌, ℕ, Bool, true, false, List, [], ◌∷◌, ◌++◌, refl, ap, sym, subst, ◌∙◌, append_assoc, length, length-append, arith}
use Rattle.std.proofs.lemmas.List.{append-nil}
use Rattle.idl_text.specs.Jump.{IsPassed, fault_at, faults_in, faults_in_branches, faults_in_tree}
use Rattle.idl_text.specs.Line.{Directive, Line, Directed}
use Rattle.idl_text.specs.Matching.{AreOpen, IsBegun, IsTree}
use Rattle.idl_text.specs.Tree.{IsBranch, Tree, Leaf, Stray, Group as group_tree, Forest, Empty, Grow, Branches, Closed, Unclosed, Branch, append, is_else}
use Rattle.idl_text.specs.TreeLaw.{Inside, IsFormed, IsLineAlone, IsTreeFormed, lines_in_branches, lines_in_forest, lines_in_tree}
use Rattle.idl_text.specs.declared.groups.branch.OpenBranch.{OpenBranch}
use Rattle.idl_text.specs.declared.groups.fault.GroupFault.{GroupFault}
use Rattle.idl_text.specs.declared.groups.fault.Misplaced.TheVariants.{OutOfPlace, NotClosed}
use Rattle.idl_text.specs.declared.groups.kind.DirectiveKind.TheVariants.{Endif, Opening}
use Rattle.idl_text.specs.declared.groups.kind.Test.{Test}
use Rattle.idl_text.proofs.TreeLawLemmas.{formed-append, lines_in_forest-append}

faults_in-append : (f g : Forest) → faults_in (append f g) ≡ faults_in f ++ faults_in g
unfolding faults_in
faults_in-append Empty g = refl
faults_in-append (Grow t f) g =
    ap (λ (xs : List GroupFault). faults_in_tree t ++ xs) (faults_in-append f g) ∙ sym (append_assoc (faults_in_tree t) (faults_in f) (faults_in g))

-- ---- a branch, as far as it was read

passed-nothing : (has_else : Bool) (lines : List Line) → IsPassed has_else lines lines []
unfolding IsFormed lines_in_forest faults_in
passed-nothing has_else lines = record { between = Empty; formed = tt; is = refl; told = refl }

-- a tree more
passed-tree : (has_else : Bool) (lines here rest : List Line) (xs : List GroupFault) (t : Tree) → IsPassed has_else lines here xs → lines_in_tree t ++ rest ≡ here
    → IsTreeFormed (Inside has_else) t rest → IsPassed has_else lines rest (xs ++ faults_in_tree t)
unfolding IsFormed lines_in_forest faults_in
passed-tree has_else lines here rest xs t passed is formed =
    let f = passed.between in
    let one : Forest = Grow t Empty in
    let same : here ≡ lines_in_forest one ++ rest = sym is ∙ ap (λ (ls : List Line). ls ++ rest) (sym (append-nil (lines_in_tree t))) in
    record {
      between = append f one;
      formed = formed-append (Inside has_else) f one rest (subst (IsFormed (Inside has_else) f) same passed.formed) (formed, tt);
      is =
          ap (λ (ls : List Line). ls ++ rest) (lines_in_forest-append f one)
          ∙ append_assoc (lines_in_forest f) (lines_in_forest one) rest
          ∙ ap (λ (ls : List Line). lines_in_forest f ++ ls) (sym same)
          ∙ passed.is;
      told =
          faults_in-append f one
          ∙ ap (λ (ys : List GroupFault). faults_in f ++ ys) (append-nil (faults_in_tree t))
          ∙ ap (λ (ys : List GroupFault). ys ++ faults_in_tree t) passed.told;
    }

-- ---- a group, as far as it was read

begun-opening : (d : Directive) (what : Test) (lines : List Line) → d.kind ≡ Opening what → IsBegun (Directed d ∷ lines) lines false [] (fault_at NotClosed d)
unfolding IsFormed lines_in_forest faults_in
begun-opening d what lines opens f bs rest is formed are = record {
  tree = group_tree d what f bs;
  formed = λ around. (opens, formed, are);
  is = ap (λ (ls : List Line). Directed d ∷ ls) (append_assoc (lines_in_forest f) (lines_in_branches bs) rest ∙ is);
  told = refl;
}

-- another branch of it begins
begun-branch : (group branch lines : List Line) (before inside : List GroupFault) (unclosed : GroupFault) (d : Directive) → IsBranch d.kind → IsBegun group branch false before unclosed
    → IsPassed false branch (Directed d ∷ lines) inside → IsBegun group lines (is_else d.kind) (before ++ inside) unclosed
unfolding IsFormed lines_in_forest faults_in
begun-branch group branch lines before inside unclosed d begins begun passed f bs rest is formed are =
    let g = passed.between in
    let later : Branches = Branch d f bs in
    let same : Directed d ∷ lines ≡ lines_in_branches later ++ rest =
    ap (λ (ls : List Line). Directed d ∷ ls) (sym (append_assoc (lines_in_forest f) (lines_in_branches bs) rest ∙ is)) in
    let made = begun g later rest (ap (λ (ls : List Line). lines_in_forest g ++ ls) (sym same) ∙ passed.is) (subst (IsFormed (Inside false) g) same passed.formed) (refl, begins, formed, are) in
    record {
      tree = made.tree;
      formed = made.formed;
      is = made.is;
      told =
          made.told
          ∙ ap (λ (xs : List GroupFault). before ++ (xs ++ (faults_in f ++ faults_in_branches bs unclosed))) passed.told
          ∙ sym (append_assoc before inside (faults_in f ++ faults_in_branches bs unclosed));
    }

-- it ends
begun-endif : (has_else : Bool) (group branch lines : List Line) (before inside : List GroupFault) (unclosed : GroupFault) (d : Directive) → d.kind ≡ Endif → IsBegun group branch has_else before unclosed
    → IsPassed has_else branch (Directed d ∷ lines) inside → IsTree group lines (before ++ inside)
unfolding IsFormed lines_in_forest faults_in
begun-endif has_else group branch lines before inside unclosed d ends begun passed =
    let g = passed.between in
    let made = begun g (Closed d) lines passed.is passed.formed ends in
    record {
      tree = made.tree;
      formed = made.formed;
      is = made.is;
      told = made.told ∙ ap (λ (xs : List GroupFault). before ++ xs) (append-nil (faults_in g) ∙ passed.told);
    }

-- the file ends
begun-unclosed : (has_else : Bool) (group branch : List Line) (before inside : List GroupFault) (unclosed : GroupFault) → IsBegun group branch has_else before unclosed
    → IsPassed has_else branch [] inside → IsTree group [] (before ++ (inside ++ unclosed ∷ []))
unfolding IsFormed lines_in_forest faults_in
begun-unclosed has_else group branch before inside unclosed begun passed =
    let g = passed.between in
    let made = begun g Unclosed [] passed.is passed.formed refl in
    record {
      tree = made.tree;
      formed = made.formed;
      is = made.is;
      told = made.told ∙ ap (λ (xs : List GroupFault). before ++ (xs ++ unclosed ∷ [])) passed.told;
    }

-- ---- the branches that are open

module _ (lines : ℕ → List Line) where
  -- a tree inside the innermost
  pub open-tree : (here rest : List Line) (xs : List GroupFault) (b : OpenBranch) (bs : List OpenBranch) (t : Tree) → AreOpen lines here xs (b ∷ bs) → lines_in_tree t ++ rest ≡ here
      → IsTreeFormed (Inside b.has_else) t rest → AreOpen lines rest (xs ++ faults_in_tree t) (b ∷ bs)
  open-tree here rest xs b bs t (found, opened, around) is formed =
      let ys = faults_in_tree t in (
        record { group = found.group; outside = found.outside; before = found.before; inside = found.inside ++ ys },
        record {
          all =
              ap (λ (zs : List GroupFault). found.outside ++ zs) (sym (append_assoc found.before found.inside ys))
              ∙ sym (append_assoc found.outside (found.before ++ found.inside) ys)
              ∙ ap (λ (zs : List GroupFault). zs ++ ys) opened.all;
          count = opened.count;
          passed = passed-tree b.has_else (lines b.from) here rest found.inside t opened.passed is formed;
          begun = opened.begun;
        },
        around,
      )

  -- the same of whatever is open, where the tree may be anywhere
  open-whole : (here rest : List Line) (xs ys : List GroupFault) (bs : List OpenBranch) → AreOpen lines here xs bs → IsTree here rest ys → AreOpen lines rest (xs ++ ys) bs
  open-whole here rest xs ys [] opened whole = tt
  open-whole here rest xs ys (b ∷ bs) opened whole =
      subst (λ (zs : List GroupFault). AreOpen lines rest (xs ++ zs) (b ∷ bs)) whole.told (open-tree here rest xs b bs whole.tree opened whole.is (whole.formed (Inside b.has_else)))

  -- a line that belongs to no group
  pub open-alone : (l : Line) (rest : List Line) (xs : List GroupFault) (bs : List OpenBranch) → IsLineAlone l → AreOpen lines (l ∷ rest) xs bs → AreOpen lines rest xs bs
  unfolding IsFormed lines_in_forest faults_in
  open-alone l rest xs bs alone opened =
      let leaf : IsTree (l ∷ rest) rest [] = record { tree = Leaf l; formed = λ around. alone; is = refl; told = refl } in
      subst (λ (zs : List GroupFault). AreOpen lines rest zs bs) (append-nil xs) (open-whole (l ∷ rest) rest xs [] bs opened leaf)

  -- a directive that is out of place behind an `else`
  pub open-stray : (d : Directive) (rest : List Line) (xs : List GroupFault) (b : OpenBranch) (bs : List OpenBranch) → IsBranch d.kind → b.has_else ≡ true
      → AreOpen lines (Directed d ∷ rest) xs (b ∷ bs) → AreOpen lines rest (xs ++ fault_at OutOfPlace d ∷ []) (b ∷ bs)
  unfolding IsFormed lines_in_forest faults_in
  open-stray d rest xs b bs branch has_else opened =
      open-tree (Directed d ∷ rest) rest xs b bs (Stray d) opened refl
      (let P : Bool → Type 0 = λ h. IsTreeFormed (Inside h) (Stray d) rest in subst P (sym has_else) branch)

  -- a group begins
  pub open-opening : (d : Directive) (what : Test) (rest : List Line) (xs : List GroupFault) (b : OpenBranch) (bs : List OpenBranch) → d.kind ≡ Opening what
      → lines b.from ≡ rest → b.faults ≡ length xs → b.has_else ≡ false → b.unclosed ≡ fault_at NotClosed d
      → AreOpen lines (Directed d ∷ rest) xs bs → AreOpen lines rest xs (b ∷ bs)
  open-opening d what rest xs b bs opens from count none unclosed opened =
      let P : List Line → Type 0 = λ ls. IsPassed b.has_else ls rest [] in
      let Q : List Line → Bool → GroupFault → Type 0 = λ ls h u. IsBegun (Directed d ∷ rest) ls h [] u in (
        record { group = Directed d ∷ rest; outside = xs; before = []; inside = [] },
        record {
          all = append-nil xs;
          count = omega (arith, count);
          passed = subst P (sym from) (passed-nothing b.has_else rest);
          begun =
              subst (λ ls. Q ls b.has_else b.unclosed) (sym from)
              (subst (λ h. Q rest h b.unclosed) (sym none) (subst (Q rest false) (sym unclosed) (begun-opening d what rest opens)));
        },
        opened,
      )

  -- another branch of the innermost group begins
  pub open-branch : (d : Directive) (rest : List Line) (xs : List GroupFault) (b c : OpenBranch) (bs : List OpenBranch) → IsBranch d.kind → b.has_else ≡ false
      → lines c.from ≡ rest → c.faults ≡ length xs → c.has_else ≡ is_else d.kind → c.unclosed ≡ b.unclosed
      → AreOpen lines (Directed d ∷ rest) xs (b ∷ bs) → AreOpen lines rest xs (c ∷ bs)
  open-branch d rest xs b c bs branch none from count goes_on unclosed (found, opened, around) =
      let P : List Line → Type 0 = λ ls. IsPassed c.has_else ls rest [] in
      let Q : List Line → Bool → GroupFault → Type 0 = λ ls h u. IsBegun found.group ls h (found.before ++ found.inside) u in
      let begun : IsBegun found.group (lines b.from) false found.before b.unclosed = subst (λ h. IsBegun found.group (lines b.from) h found.before b.unclosed) none opened.begun in
      let passed : IsPassed false (lines b.from) (Directed d ∷ rest) found.inside = subst (λ h. IsPassed h (lines b.from) (Directed d ∷ rest) found.inside) none opened.passed in
      let all : length found.outside + length (found.before ++ found.inside) ≡ length xs = sym (length-append found.outside (found.before ++ found.inside)) ∙ ap length opened.all in (
        record { group = found.group; outside = found.outside; before = found.before ++ found.inside; inside = [] },
        record {
          all = ap (λ (zs : List GroupFault). found.outside ++ zs) (append-nil (found.before ++ found.inside)) ∙ opened.all;
          count = all ∙ sym count;
          passed = subst P (sym from) (passed-nothing c.has_else rest);
          begun =
              subst (λ ls. Q ls c.has_else c.unclosed) (sym from)
              (subst (λ h. Q rest h c.unclosed) (sym goes_on)
              (subst (Q rest (is_else d.kind)) (sym unclosed) (begun-branch found.group (lines b.from) rest found.before found.inside b.unclosed d branch begun passed)));
        },
        around,
      )

  -- the innermost group ends
  pub open-endif : (d : Directive) (rest : List Line) (xs : List GroupFault) (b : OpenBranch) (bs : List OpenBranch) → d.kind ≡ Endif
      → AreOpen lines (Directed d ∷ rest) xs (b ∷ bs) → AreOpen lines rest xs bs
  open-endif d rest xs b bs ends (found, opened, around) =
      subst (λ (zs : List GroupFault). AreOpen lines rest zs bs) opened.all
      (open-whole found.group rest found.outside (found.before ++ found.inside) bs around
      (begun-endif b.has_else found.group (lines b.from) rest found.before found.inside b.unclosed d ends opened.begun opened.passed))

  -- the file ends inside it
  pub open-unclosed : (xs : List GroupFault) (b : OpenBranch) (bs : List OpenBranch) → AreOpen lines [] xs (b ∷ bs) → AreOpen lines [] (xs ++ b.unclosed ∷ []) bs
  open-unclosed xs b bs (found, opened, around) =
      let last = b.unclosed ∷ [] in
      subst (λ (zs : List GroupFault). AreOpen lines [] zs bs)
      (ap (λ (zs : List GroupFault). found.outside ++ zs) (sym (append_assoc found.before found.inside last))
      ∙ sym (append_assoc found.outside (found.before ++ found.inside) last)
      ∙ ap (λ (zs : List GroupFault). zs ++ last) opened.all)
      (open-whole found.group [] found.outside (found.before ++ (found.inside ++ last)) bs around
      (begun-unclosed b.has_else found.group (lines b.from) found.before found.inside b.unclosed opened.begun opened.passed))
