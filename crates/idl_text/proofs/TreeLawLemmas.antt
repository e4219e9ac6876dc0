-- The tree of a file has its lines, each where it may stand, and is the only one.
use Rattle.std.proofs.Common.{◌≡◌, Bool, true, false, List, [], ◌∷◌, ◌++◌, if◌then◌else◌, refl, ap, sym, subst, ◌∙◌, append_assoc}
use Rattle.std.proofs.lemmas.List.{append-nil}
use Rattle.idl_text.specs.Line.{Directive, Line, Text, NullDirective, Directed}
use Rattle.idl_text.specs.Tree.{IsBranch, IsOfGroup, Tree, Leaf, Stray, Group, Forest, Empty, Grow, Branches, Closed, Unclosed, Branch, Tail, AtEnd, At, Part, Closing, append, before, close, directive_before, group_before, grown, is_else, is_endif, part, strays, tree}
use Rattle.idl_text.specs.TreeLaw.{Around, Outside, Inside, AreFormed, IsAlone, IsFormed, IsTreeFormed, MayStray, lines_in_branches, lines_in_forest, lines_in_tree}
use Rattle.idl_text.specs.declared.groups.kind.DirectiveKind.{DirectiveKind}
use Rattle.idl_text.specs.declared.groups.kind.DirectiveKind.TheVariants.{Alone, Opening, Elif, Else, Endif}
use Rattle.idl_text.specs.declared.groups.kind.Test.{Test}
use Rattle.idl_text.proofs.TreeLemmas.{before-of_group, body_grown, branch_before, close-branch, close-endif, close-Grow, close-stray, ending, of_group-branch, strays-Grow}

-- what holds of each way to go on at a directive of a group
at_directive : (P : Closing → Type 0) (ends has_else : Bool) (end stray branch : Closing) → (ends ≡ true → P end) → (ends ≡ false → has_else ≡ true → P stray)
    → (ends ≡ false → has_else ≡ false → P branch) → P (if ends then end else (if has_else then stray else branch))
at_directive P true has_else end stray branch p q r = p refl
at_directive P false true end stray branch p q r = q refl refl
at_directive P false false end stray branch p q r = r refl refl

-- ---- nothing is lost

pub lines_in_forest-append : (f g : Forest) → lines_in_forest (append f g) ≡ lines_in_forest f ++ lines_in_forest g
unfolding lines_in_forest
lines_in_forest-append Empty g = refl
lines_in_forest-append (Grow t f) g =
    ap (λ (ls : List Line). lines_in_tree t ++ ls) (lines_in_forest-append f g) ∙ sym (append_assoc (lines_in_tree t) (lines_in_forest f) (lines_in_forest g))

abbrev lines_in_tail : Tail → List Line
lines_in_tail AtEnd = []
lines_in_tail (At d front tail) = Directed d ∷ (lines_in_forest front ++ lines_in_tail tail)

abbrev lines_in_part : Part → List Line
lines_in_part p = lines_in_forest p.front ++ lines_in_tail p.tail

-- the lines behind a group's body
abbrev lines_behind : Closing → List Line
lines_behind c = lines_in_branches c.branches ++ lines_in_part c.after

abbrev lines_in_closing : Closing → List Line
lines_in_closing c = lines_in_forest c.body ++ lines_behind c

lines_in_closing-close : (has_else : Bool) (body : Forest) (tail : Tail) → lines_in_closing (close has_else body tail) ≡ lines_in_forest body ++ lines_in_tail tail
unfolding close lines_in_forest
lines_in_closing-close has_else body AtEnd = refl
lines_in_closing-close has_else body (At d front tail) =
    let next = close (is_else d.kind) front tail in
    at_directive (λ c. lines_in_closing c ≡ lines_in_forest body ++ lines_in_tail (At d front tail)) (is_endif d.kind) has_else
    (record { body = body; branches = Closed d; after = record { front = front; tail = tail } })
    (close has_else (append body (Grow (Stray d) front)) tail)
    (record { body = body; branches = Branch d next.body next.branches; after = next.after })
    (λ ends. refl)
    (λ goes_on has. lines_in_closing-close has_else (append body (Grow (Stray d) front)) tail
    ∙ ap (λ (ls : List Line). ls ++ lines_in_tail tail) (lines_in_forest-append body (Grow (Stray d) front))
    ∙ append_assoc (lines_in_forest body) (Directed d ∷ lines_in_forest front) (lines_in_tail tail))
    (λ goes_on none. ap (λ (ls : List Line). lines_in_forest body ++ (Directed d ∷ ls))
    (append_assoc (lines_in_forest next.body) (lines_in_branches next.branches) (lines_in_part next.after) ∙ lines_in_closing-close (is_else d.kind) front tail))

lines_in_part-directive : (k : DirectiveKind) (d : Directive) (p : Part) → lines_in_part (directive_before k d p) ≡ Directed d ∷ lines_in_part p
unfolding lines_in_forest
lines_in_part-directive (Alone what) d p = refl
lines_in_part-directive (Opening what) d p =
    let c = close false p.front p.tail in
    ap (λ (ls : List Line). Directed d ∷ ls) (append_assoc (lines_in_forest c.body ++ lines_in_branches c.branches) (lines_in_forest c.after.front) (lines_in_tail c.after.tail)
    ∙ append_assoc (lines_in_forest c.body) (lines_in_branches c.branches) (lines_in_part c.after)
    ∙ lines_in_closing-close false p.front p.tail)
lines_in_part-directive Elif d p = refl
lines_in_part-directive Else d p = refl
lines_in_part-directive Endif d p = refl

lines_in_part-before : (l : Line) (p : Part) → lines_in_part (before l p) ≡ l ∷ lines_in_part p
unfolding lines_in_forest
lines_in_part-before (Text tokens) p = refl
lines_in_part-before (NullDirective line) p = refl
lines_in_part-before (Directed d) p = lines_in_part-directive d.kind d p

lines_in_part-part : (lines : List Line) → lines_in_part (part lines) ≡ lines
unfolding part lines_in_forest
lines_in_part-part [] = refl
lines_in_part-part (l ∷ lines) = lines_in_part-before l (part lines) ∙ ap (λ (ls : List Line). l ∷ ls) (lines_in_part-part lines)

lines_in_forest-strays : (f : Forest) (tail : Tail) → lines_in_forest (strays f tail) ≡ lines_in_forest f ++ lines_in_tail tail
unfolding lines_in_forest
lines_in_forest-strays f AtEnd = sym (append-nil (lines_in_forest f))
lines_in_forest-strays f (At d front tail) =
    lines_in_forest-append f (Grow (Stray d) (strays front tail)) ∙ ap (λ (ls : List Line). lines_in_forest f ++ (Directed d ∷ ls)) (lines_in_forest-strays front tail)

pub lines_in_forest-tree : (lines : List Line) → lines_in_forest (tree lines) ≡ lines
unfolding tree
lines_in_forest-tree lines = lines_in_forest-strays (part lines).front (part lines).tail ∙ lines_in_part-part lines

-- ---- each directive is where it may be

-- a forest without strays of its own may be anywhere
formed-anywhere : (around : Around) (f : Forest) (after : List Line) → IsFormed (Inside false) f after → IsFormed around f after
unfolding IsFormed
formed-anywhere around Empty after h = tt
formed-anywhere around (Grow (Leaf line) f) after h = (h.0, formed-anywhere around f after h.1)
formed-anywhere around (Grow (Stray d) f) after h = absurd h.0
formed-anywhere around (Grow (Group d what body bs) f) after h = (h.0, formed-anywhere around f after h.1)

pub formed-append : (around : Around) (f g : Forest) (after : List Line) → IsFormed around f (lines_in_forest g ++ after) → IsFormed around g after → IsFormed around (append f g) after
unfolding IsFormed
formed-append around Empty g after h k = k
formed-append around (Grow t f) g after h k =
    let same : lines_in_forest f ++ (lines_in_forest g ++ after) ≡ lines_in_forest (append f g) ++ after =
    sym (append_assoc (lines_in_forest f) (lines_in_forest g) after) ∙ ap (λ (ls : List Line). ls ++ after) (sym (lines_in_forest-append f g)) in
    (subst (IsTreeFormed around t) same h.0, formed-append around f g after h.1 k)

abbrev IsTailFormed : Tail → Type 0
IsTailFormed AtEnd = Unit {0}
IsTailFormed (At d front tail) = IsOfGroup d.kind × IsFormed (Inside false) front (lines_in_tail tail) × IsTailFormed tail

abbrev IsPartFormed : Part → Type 0
IsPartFormed p = IsFormed (Inside false) p.front (lines_in_tail p.tail) × IsTailFormed p.tail

record IsClosingFormed (has_else : Bool) (c : Closing) : Type 0 where
  body : IsFormed (Inside has_else) c.body (lines_behind c)
  branches : AreFormed has_else c.branches (lines_in_part c.after)
  after : IsPartFormed c.after

ends-endif : (k : DirectiveKind) → is_endif k ≡ true → k ≡ Endif
ends-endif (Alone what) e = cc
ends-endif (Opening what) e = cc
ends-endif Elif e = cc
ends-endif Else e = cc
ends-endif Endif e = refl

goes_on-branch : (k : DirectiveKind) → IsOfGroup k → is_endif k ≡ false → IsBranch k
goes_on-branch (Alone what) h e = absurd h
goes_on-branch (Opening what) h e = absurd h
goes_on-branch Elif h e = tt
goes_on-branch Else h e = tt
goes_on-branch Endif h e = cc

formed-close : (has_else : Bool) (body : Forest) (tail : Tail) → IsFormed (Inside has_else) body (lines_in_tail tail) → IsTailFormed tail → IsClosingFormed has_else (close has_else body tail)
unfolding close lines_in_forest IsFormed
formed-close has_else body AtEnd h k = record { body = h; branches = refl; after = (tt, tt) }
formed-close has_else body (At d front tail) h k =
    let next = close (is_else d.kind) front tail in
    let later = formed-close (is_else d.kind) front tail (formed-anywhere (Inside (is_else d.kind)) front (lines_in_tail tail) k.1) k.2 in
    let same : lines_in_tail (At d front tail) ≡ (Directed d ∷ (lines_in_forest next.body ++ lines_in_branches next.branches)) ++ lines_in_part next.after =
    ap (λ (ls : List Line). Directed d ∷ ls) (sym (append_assoc (lines_in_forest next.body) (lines_in_branches next.branches) (lines_in_part next.after) ∙ lines_in_closing-close (is_else d.kind) front tail)) in
    at_directive (IsClosingFormed has_else) (is_endif d.kind) has_else
    (record { body = body; branches = Closed d; after = record { front = front; tail = tail } })
    (close has_else (append body (Grow (Stray d) front)) tail)
    (record { body = body; branches = Branch d next.body next.branches; after = next.after })
    (λ ends. record { body = h; branches = ends-endif d.kind ends; after = (k.1, k.2) })
    (λ goes_on has. formed-close has_else (append body (Grow (Stray d) front)) tail
    (formed-append (Inside has_else) body (Grow (Stray d) front) (lines_in_tail tail) h
    (let P : Bool → Type 0 = λ b. MayStray (Inside b) d.kind in subst P (sym has) (goes_on-branch d.kind k.0 goes_on), formed-anywhere (Inside has_else) front (lines_in_tail tail) k.1)) k.2)
    (λ goes_on none. record {
      body = subst (IsFormed (Inside has_else) body) same h;
      branches = (none, goes_on-branch d.kind k.0 goes_on, later.body, later.branches);
      after = later.after;
    })

formed-directive : (k : DirectiveKind) (d : Directive) (p : Part) → d.kind ≡ k → IsPartFormed p → IsPartFormed (directive_before k d p)
unfolding lines_in_forest IsFormed
formed-directive (Alone what) d p is h = ((let P : DirectiveKind → Type 0 = λ k. IsAlone k in subst P (sym is) tt, h.0), h.1)
formed-directive (Opening what) d p is h =
    let c = formed-close false p.front p.tail h.0 h.1 in
    (((is, c.body, c.branches), c.after.0), c.after.1)
formed-directive Elif d p is h = (tt, (let P : DirectiveKind → Type 0 = λ k. IsOfGroup k in subst P (sym is) tt, h.0, h.1))
formed-directive Else d p is h = (tt, (let P : DirectiveKind → Type 0 = λ k. IsOfGroup k in subst P (sym is) tt, h.0, h.1))
formed-directive Endif d p is h = (tt, (let P : DirectiveKind → Type 0 = λ k. IsOfGroup k in subst P (sym is) tt, h.0, h.1))

formed-before : (l : Line) (p : Part) → IsPartFormed p → IsPartFormed (before l p)
unfolding lines_in_forest IsFormed
formed-before (Text tokens) p h = ((tt, h.0), h.1)
formed-before (NullDirective line) p h = ((tt, h.0), h.1)
formed-before (Directed d) p h = formed-directive d.kind d p refl h

formed-part : (lines : List Line) → IsPartFormed (part lines)
unfolding part IsFormed
formed-part [] = (tt, tt)
formed-part (l ∷ lines) = formed-before l (part lines) (formed-part lines)

formed-strays : (f : Forest) (tail : Tail) → IsFormed Outside f (lines_in_tail tail) → IsTailFormed tail → IsFormed Outside (strays f tail) []
unfolding lines_in_forest IsFormed
formed-strays f AtEnd h k = h
formed-strays f (At d front tail) h k =
    let same : lines_in_tail (At d front tail) ≡ (Directed d ∷ lines_in_forest (strays front tail)) ++ [] =
    ap (λ (ls : List Line). Directed d ∷ ls) (sym (append-nil (lines_in_forest (strays front tail)) ∙ lines_in_forest-strays front tail)) in
    formed-append Outside f (Grow (Stray d) (strays front tail)) [] (subst (IsFormed Outside f) same h)
    (k.0, formed-strays front tail (formed-anywhere Outside front (lines_in_tail tail) k.1) k.2)

pub IsFormed-tree : (lines : List Line) → IsFormed Outside (tree lines) []
unfolding tree
IsFormed-tree lines =
    let h = formed-part lines in
    let p = part lines in
    formed-strays p.front p.tail (formed-anywhere Outside p.front (lines_in_tail p.tail) h.0) h.1

-- ---- there is no other

pub append-Empty : (f : Forest) → append f Empty ≡ f
append-Empty Empty = refl
append-Empty (Grow t f) = ap (Grow t) (append-Empty f)

-- a forest before the group's end
abbrev pub body_after : Forest → Closing → Closing
body_after f c = record { body = append f c.body; branches = c.branches; after = c.after }

-- a group that ends at once
abbrev ended_by : Branches → Part → Closing
ended_by bs p = record { body = Empty; branches = bs; after = p }

-- a part inside what is around it: outside every group all that is left open is stray, and a group is closed
abbrev pub settled : Around → Part → Closing
settled Outside p = record { body = strays p.front p.tail; branches = Unclosed; after = record { front = Empty; tail = AtEnd } }
settled (Inside has_else) p = close has_else p.front p.tail

settled-grown : (around : Around) (t : Tree) (p : Part) → settled around (grown t p) ≡ body_grown t (settled around p)
settled-grown Outside t p = ap (λ (f : Forest). record { body = f; branches = Unclosed; after = record { front = Empty; tail = AtEnd } }) (strays-Grow t p.front p.tail)
settled-grown (Inside has_else) t p = close-Grow has_else t p.front p.tail

settled-stray : (around : Around) (d : Directive) (p : Part) → MayStray around d.kind → settled around (ending d p) ≡ body_grown (Stray d) (settled around p)
settled-stray Outside d p h = refl
settled-stray (Inside true) d p h = close-stray d p h
settled-stray (Inside false) d p h = absurd h

of_group-stray : (around : Around) (k : DirectiveKind) → MayStray around k → IsOfGroup k
of_group-stray Outside k h = h
of_group-stray (Inside true) k h = of_group-branch k h
of_group-stray (Inside false) k h = absurd h

before-Leaf : (k : DirectiveKind) (d : Directive) (p : Part) → IsAlone k → directive_before k d p ≡ grown (Leaf (Directed d)) p
before-Leaf (Alone what) d p h = refl
before-Leaf (Opening what) d p h = absurd h
before-Leaf Elif d p h = absurd h
before-Leaf Else d p h = absurd h
before-Leaf Endif d p h = absurd h

-- a group whose body and branches come next
group_before-read : (d : Directive) (what : Test) (f : Forest) (bs : Branches) (p later q : Part) → d.kind ≡ Opening what
    → settled (Inside false) p ≡ body_after f (settled (Inside false) later) → settled (Inside false) later ≡ ended_by bs q
    → directive_before d.kind d p ≡ grown (Group d what f bs) q
group_before-read d what f bs p later q opens body ends =
    ap (λ k. directive_before k d p) opens
    ∙ ap (group_before d what) (body ∙ ap (body_after f) ends)
    ∙ ap (λ (f : Forest). grown (Group d what f bs) q) (append-Empty f)

branch_before-read : (has_else : Bool) (d : Directive) (f : Forest) (bs : Branches) (p later q : Part) → has_else ≡ false → IsBranch d.kind
    → settled (Inside (is_else d.kind)) p ≡ body_after f (settled (Inside (is_else d.kind)) later) → settled (Inside (is_else d.kind)) later ≡ ended_by bs q
    → settled (Inside has_else) (directive_before d.kind d p) ≡ ended_by (Branch d f bs) q
branch_before-read has_else d f bs p later q none branch body ends =
    ap (settled (Inside has_else)) (before-of_group d.kind d p (of_group-branch d.kind branch))
    ∙ ap (λ b. settled (Inside b) (ending d p)) none
    ∙ close-branch d p branch
    ∙ ap (branch_before d) (body ∙ ap (body_after f) ends)
    ∙ ap (λ (f : Forest). ended_by (Branch d f bs) q) (append-Empty f)

-- the file ends
at_end : (has_else : Bool) (after : List Line) → after ≡ [] → settled (Inside has_else) (part after) ≡ ended_by Unclosed (part after)
unfolding part close
at_end has_else after is = let P : List Line → Type 0 = λ ls. settled (Inside has_else) (part ls) ≡ ended_by Unclosed (part ls) in subst P (sym is) refl

-- read again, the lines of a formed tree are that tree
mutual
  unfolding IsFormed lines_in_forest part

  settled-tree : (around : Around) (t : Tree) (after : List Line) → IsTreeFormed around t after → settled around (part (lines_in_tree t ++ after)) ≡ body_grown t (settled around (part after))
  settled-tree around (Leaf (Text tokens)) after h = settled-grown around (Leaf (Text tokens)) (part after)
  settled-tree around (Leaf (NullDirective line)) after h = settled-grown around (Leaf (NullDirective line)) (part after)
  settled-tree around (Leaf (Directed d)) after h = ap (settled around) (before-Leaf d.kind d (part after) h) ∙ settled-grown around (Leaf (Directed d)) (part after)
  settled-tree around (Stray d) after h = ap (settled around) (before-of_group d.kind d (part after) (of_group-stray around d.kind h)) ∙ settled-stray around d (part after) h
  settled-tree around (Group d what f bs) after h =
      ap (λ (ls : List Line). settled around (directive_before d.kind d (part ls))) (append_assoc (lines_in_forest f) (lines_in_branches bs) after)
      ∙ ap (settled around) (group_before-read d what f bs (part (lines_in_forest f ++ (lines_in_branches bs ++ after))) (part (lines_in_branches bs ++ after)) (part after) h.0
      (settled-forest (Inside false) f (lines_in_branches bs ++ after) h.1) (settled-branches false bs after h.2))
      ∙ settled-grown around (Group d what f bs) (part after)

  pub settled-forest : (around : Around) (f : Forest) (after : List Line) → IsFormed around f after → settled around (part (lines_in_forest f ++ after)) ≡ body_after f (settled around (part after))
  settled-forest around Empty after h = refl
  settled-forest around (Grow t f) after h =
      ap (λ (ls : List Line). settled around (part ls)) (append_assoc (lines_in_tree t) (lines_in_forest f) after)
      ∙ settled-tree around t (lines_in_forest f ++ after) h.0
      ∙ ap (body_grown t) (settled-forest around f after h.1)

  settled-branches : (has_else : Bool) (bs : Branches) (after : List Line) → AreFormed has_else bs after → settled (Inside has_else) (part (lines_in_branches bs ++ after)) ≡ ended_by bs (part after)
  settled-branches has_else (Closed d) after h = ap (λ k. settled (Inside has_else) (directive_before k d (part after))) h ∙ close-endif has_else d (part after) h
  settled-branches has_else Unclosed after h = at_end has_else after h
  settled-branches has_else (Branch d f bs) after h =
      ap (λ (ls : List Line). settled (Inside has_else) (directive_before d.kind d (part ls))) (append_assoc (lines_in_forest f) (lines_in_branches bs) after)
      ∙ branch_before-read has_else d f bs (part (lines_in_forest f ++ (lines_in_branches bs ++ after))) (part (lines_in_branches bs ++ after)) (part after) h.0 h.1
      (settled-forest (Inside (is_else d.kind)) f (lines_in_branches bs ++ after) h.2) (settled-branches (is_else d.kind) bs after h.3)

tree-lines_in_forest : (f : Forest) → IsFormed Outside f [] → tree (lines_in_forest f) ≡ f
unfolding tree part
tree-lines_in_forest f h =
    ap tree (sym (append-nil (lines_in_forest f)))
    ∙ ap (λ (c : Closing). c.body) (settled-forest Outside f [] h)
    ∙ append-Empty f

pub only-tree : (lines : List Line) (f : Forest) → lines_in_forest f ≡ lines → IsFormed Outside f [] → f ≡ tree lines
only-tree lines f is h = sym (tree-lines_in_forest f h) ∙ ap tree is
