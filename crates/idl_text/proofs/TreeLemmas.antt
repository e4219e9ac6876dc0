-- A tree, or a directive, before what closes a group.
use Rattle.std.proofs.Common.{◌≡◌, Bool, true, false, if◌then◌else◌, refl, ap, ◌∙◌}
use Rattle.idl_text.specs.Line.{Directive, Directed}
use Rattle.idl_text.specs.Tree.{IsBranch, IsOfGroup, Tree, Leaf, Stray, Forest, Empty, Grow, Closed, Branch, Tail, AtEnd, At, Part, Closing, append, before, is_endif, is_else, close, directive_before, grown, strays}
use Rattle.idl_text.specs.declared.groups.kind.DirectiveKind.{DirectiveKind}
use Rattle.idl_text.specs.declared.groups.kind.DirectiveKind.TheVariants.{Alone, Opening, Elif, Else, Endif}
use Rattle.idl_text.specs.declared.groups.kind.Plain.{Plain}

-- a tree before the group's end
abbrev pub body_grown : Tree → Closing → Closing
body_grown t c = record { body = Grow t c.body; branches = c.branches; after = c.after }

choose-grown : (b h : Bool) (t : Tree) (a a' e e' o o' : Closing) → a ≡ body_grown t a' → e ≡ body_grown t e' → o ≡ body_grown t o'
    → (if b then a else (if h then e else o)) ≡ body_grown t (if b then a' else (if h then e' else o'))
choose-grown true h t a a' e e' o o' p q r = p
choose-grown false true t a a' e e' o o' p q r = q
choose-grown false false t a a' e e' o o' p q r = r

pub close-Grow : (has_else : Bool) (t : Tree) (f : Forest) (tail : Tail) → close has_else (Grow t f) tail ≡ body_grown t (close has_else f tail)
unfolding close
close-Grow has_else t f AtEnd = refl
close-Grow has_else t f (At d front tail) =
    choose-grown (is_endif d.kind) has_else t _ _ _ _ _ _ refl (close-Grow has_else t (append f (Grow (Stray d) front)) tail) refl

pub strays-Grow : (t : Tree) (f : Forest) (tail : Tail) → strays (Grow t f) tail ≡ Grow t (strays f tail)
strays-Grow t f AtEnd = refl
strays-Grow t f (At d front tail) = refl

-- ---- a directive comes first

pub before-alone : (d : Directive) (what : Plain) (p : Part) → d.kind ≡ Alone what → before (Directed d) p ≡ grown (Leaf (Directed d)) p
before-alone d what p is = ap (λ k. directive_before k d p) is

-- a directive that ends what is before it
abbrev pub ending : Directive → Part → Part
ending d p = record { front = Empty; tail = At d p.front p.tail }

pub before-of_group : (k : DirectiveKind) (d : Directive) (p : Part) → IsOfGroup k → directive_before k d p ≡ ending d p
before-of_group (Alone what) d p h = absurd h
before-of_group (Opening what) d p h = absurd h
before-of_group Elif d p h = refl
before-of_group Else d p h = refl
before-of_group Endif d p h = refl

pub of_group-branch : (k : DirectiveKind) → IsBranch k → IsOfGroup k
of_group-branch (Alone what) h = h
of_group-branch (Opening what) h = h
of_group-branch Elif h = h
of_group-branch Else h = h
of_group-branch Endif h = absurd h

is_endif-branch : (k : DirectiveKind) → IsBranch k → is_endif k ≡ false
is_endif-branch (Alone what) h = refl
is_endif-branch (Opening what) h = refl
is_endif-branch Elif h = refl
is_endif-branch Else h = refl
is_endif-branch Endif h = absurd h

-- the group ends
pub close-endif : (has_else : Bool) (d : Directive) (p : Part) → d.kind ≡ Endif → close has_else Empty (At d p.front p.tail) ≡ record { body = Empty; branches = Closed d; after = p }
unfolding close
close-endif has_else d p is =
    ap (λ (k : DirectiveKind). if is_endif k then record { body = Empty; branches = Closed d; after = p }
    else (if has_else then close has_else (Grow (Stray d) p.front) p.tail
    else record { body = Empty; branches = Branch d (close (is_else d.kind) p.front p.tail).body (close (is_else d.kind) p.front p.tail).branches; after = (close (is_else d.kind) p.front p.tail).after })) is

-- another branch would begin after the group's `else`
pub close-stray : (d : Directive) (p : Part) → IsBranch d.kind → close true Empty (At d p.front p.tail) ≡ body_grown (Stray d) (close true p.front p.tail)
unfolding close
close-stray d p h =
    ap (λ b. if b then record { body = Empty; branches = Closed d; after = p } else close true (Grow (Stray d) p.front) p.tail) (is_endif-branch d.kind h)
    ∙ close-Grow true (Stray d) p.front p.tail

-- another branch begins
abbrev pub branch_before : Directive → Closing → Closing
branch_before d c = record { body = Empty; branches = Branch d c.body c.branches; after = c.after }

pub close-branch : (d : Directive) (p : Part) → IsBranch d.kind → close false Empty (At d p.front p.tail) ≡ branch_before d (close (is_else d.kind) p.front p.tail)
unfolding close
close-branch d p h =
    ap (λ b. if b then record { body = Empty; branches = Closed d; after = p } else branch_before d (close (is_else d.kind) p.front p.tail)) (is_endif-branch d.kind h)
