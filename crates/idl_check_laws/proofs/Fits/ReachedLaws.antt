-- What is reached through closed interfaces: the lists of these have it, and it stays whatever is declared elsewhere.
use Rattle.std.proofs.Common.{◌≡◌, ◌∙◌, ℕ, true, cond, List, [], ◌∷◌, Option, Some, None, refl, sym, ap, subst}
use Rattle.std.specs.Prelude.{◌↔◌, Contains}
use Rattle.idl_check_laws.specs.Closing.{HasOperation}
use Rattle.idl_lex.specs.kinds.Keywords.{folded}
use Rattle.idl_scope.proofs.Constructors.{some_same}
use Rattle.idl_env.proofs.Membership.{IsIn-Contains, IsIn-one}
use Rattle.idl_entity.specs.Entity.{is_operation}
use Rattle.idl_env.specs.Facts.{entity_in}
use Rattle.idl_entity.specs.Kind.{has_bases}
use Rattle.idl_scope.specs.Meaning.{Own, Through, Up, bases_at, bases_of, own_at}
use Rattle.idl_entity.specs.Path.{name_of, scope_of}
use Rattle.idl_env.specs.declared.answering.answer.Answer.{Answer}
use Rattle.idl_entity.specs.declared.entity.Entity.{Entity}
use Rattle.idl_env.specs.declared.keys.key.Key.{Key}
use Rattle.idl_env.specs.declared.keys.key.Key.TheVariants.{Declared}
use Rattle.idl_entity.specs.declared.kind.Kind.TheVariants.{Interface}
use Rattle.idl_entity.specs.declared.kind.Stage.TheVariants.{Complete}

abbrev pub Place : Type 0
Place = List (List ℕ)

abbrev pub Answers : Type 0
Answers = Key → Option Answer

-- what is reached through bases is the same over answers that are one at them, at their bases, and so on
pub through-same : (n : List ℕ) (A B : Answers) (C : Place → Type 0)
    → ((b : Place) → C b → (own_at B n b ≡ own_at A n b) × ((bases_at B b ≡ bases_at A b) × ((c : Place) → Contains (bases_at A b) c → C c)))
    → {bases : List Place} {x : Entity} → ((b : Place) → Contains bases b → C b) → Through A n bases x → Through B n bases x
through-same n A B C same within (Own b i h) = Own b i ((same b (within b i)).0 ∙ h)
through-same n A B C same {x = x} within (Up b i none t) =
    let s = same b (within b i) in
    Up b i (s.0 ∙ none) (subst (λ bs. Through B n bs x) (sym s.1.0) (through-same n A B C same s.1.1 t))

-- ---- answers to what is declared under names

-- what is declared under a folded name in the scope at a path
abbrev pub Names : Type 0
Names = List ℕ → Place → Option Answer

-- the answers that tell it, and nothing else
abbrev pub only : Names → Answers
only D (Declared n path) = D n path
only D other = None

abbrev pub own : Names → List ℕ → Place → Option Entity
own D n path = entity_in (D n path)

-- what stands at a path
abbrev pub there : Names → Place → Option Entity
there D path = own D (folded (name_of path)) (scope_of path)

abbrev pub names_in : Answers → Names
names_in A n path = A (Declared n path)

-- nothing else is asked of answers
pub only-through : (A : Answers) (n : List ℕ) {bases : List Place} {x : Entity} → Through A n bases x → Through (only (names_in A)) n bases x
only-through A n t = through-same n A (only (names_in A)) (λ b. Unit {0}) (λ b u. (refl, (refl, λ c i. tt))) (λ b i. tt) t

pub through-only : (A : Answers) (n : List ℕ) {bases : List Place} {x : Entity} → Through (only (names_in A)) n bases x → Through A n bases x
through-only A n t = through-same n (only (names_in A)) A (λ b. Unit {0}) (λ b u. (refl, (refl, λ c i. tt))) (λ b i. tt) t

-- ---- closed interfaces

pub record IsClosed (D : Names) (e : Entity) : Type 0 where
  pub stands : there D e.path ≡ Some e
  pub kind : e.kind ≡ Interface
  pub stage : e.stage ≡ Complete

abbrev pub IsClosedAt : Names → Place → Type 0
IsClosedAt D b = (f : Entity) × IsClosed D f × (f.path ≡ b)

-- a base is closed, and what its list has another has too
abbrev pub IsWithin : Names → Entity → Place → Type 0
IsWithin D e b = (f : Entity) × IsClosed D f × (f.path ≡ b) × ((p : Place) → Contains f.operations p → Contains e.operations p)

-- its list has its own operations and those of its bases, which are closed, and each that it has is reached
pub record IsWhole (D : Names) (e : Entity) : Type 0 where
  pub own : (n : List ℕ) (x : Entity) → own D n e.path ≡ Some x → is_operation x ≡ true → Contains e.operations x.path
  pub base : (b : Place) → Contains e.bases b → IsWithin D e b
  pub told : (p : Place) → Contains e.operations p → HasOperation (only D) e.path p

abbrev pub AreWhole : Names → Type 0
AreWhole D = (e : Entity) → IsClosed D e → IsWhole D e

-- one entity stands at a path
pub closed-one : (D : Names) (e f : Entity) → there D e.path ≡ Some e → there D f.path ≡ Some f → f.path ≡ e.path → f ≡ e
closed-one D e f he hf path = some_same (sym hf ∙ ap (there D) path ∙ he)

pub closed-bases : (D : Names) (f : Entity) → IsClosed D f → bases_at (only D) f.path ≡ f.bases
closed-bases D f c = ap bases_of c.stands ∙ ap (λ s. cond (has_bases s) f.bases []) c.stage

pub bases-there : (D : Names) (b : Place) (c : IsClosedAt D b) → bases_at (only D) b ≡ c.0.bases
bases-there D b c = ap (bases_at (only D)) (sym c.2) ∙ closed-bases D c.0 c.1

-- the bases of what is closed are closed
pub within-closed : (D : Names) → AreWhole D → (b : Place) → IsClosedAt D b → (d : Place) → Contains (bases_at (only D) b) d → IsClosedAt D d
within-closed D whole b c d i =
    let k = (whole c.0 c.1).base d (subst (λ bs. Contains bs d) (bases-there D b c) i) in
    (k.0, k.1, k.2)

-- an operation that is reached through closed bases is in the list of one of them
pub reached-listed : (D : Names) → AreWhole D → (n : List ℕ) {bases : List Place} {x : Entity} → ((b : Place) → Contains bases b → IsClosedAt D b)
    → Through (only D) n bases x → is_operation x ≡ true → (f : Entity) × IsClosed D f × Contains bases f.path × Contains f.operations x.path
reached-listed D whole n {bases = bases} {x = x} within (Own b i h) operation =
    let c = within b i in
    (c.0, c.1, subst (Contains bases) (sym c.2) i, (whole c.0 c.1).own n x (ap (λ p. own D n p) c.2 ∙ h) operation)
reached-listed D whole n {bases = bases} {x = x} within (Up b i none t) operation =
    let c = within b i in
    let same = bases-there D b c in
    let r = reached-listed D whole n (within-closed D whole b c) t operation in
    let k = (whole c.0 c.1).base r.0.path (subst (λ bs. Contains bs r.0.path) same r.2) in
    let one : k.0 ≡ r.0 = closed-one D r.0 k.0 r.1.stands k.1.stands k.2 in
    (c.0, c.1, subst (Contains bases) (sym c.2) i, k.3 x.path (subst (λ (g : Entity). Contains g.operations x.path) (sym one) r.3))

-- so the list of a closed interface has what is reached, and nothing else
pub listed-reached : (D : Names) → AreWhole D → (e : Entity) → IsClosed D e → (p : Place) → Contains e.operations p ↔ HasOperation (only D) e.path p
listed-reached D whole e c p = (
  (whole e c).told p,
  λ h. let here : (b : Place) → Contains (e.path ∷ []) b → IsClosedAt D b = λ b i. (e, c, IsIn-one e.path b (IsIn-Contains b (e.path ∷ []) i)) in
      let r = reached-listed D whole h.0 here h.2 h.3 in
      let path : r.0.path ≡ e.path = sym (IsIn-one e.path r.0.path (IsIn-Contains r.0.path (e.path ∷ []) r.2)) in
      let one : r.0 ≡ e = closed-one D e r.0 c.stands r.1.stands path in
      subst (Contains e.operations) h.4 (subst (λ (f : Entity). Contains f.operations h.1.path) one r.3),
)

-- ---- names that stay

-- closed interfaces stand in the second too, and nothing else is declared in them
pub record Keeps (D B : Names) : Type 0 where
  pub stands : (e : Entity) → IsClosed D e → there B e.path ≡ Some e
  pub within : (e : Entity) → IsClosed D e → (n : List ℕ) → own B n e.path ≡ own D n e.path

pub kept-closed : (D B : Names) → Keeps D B → (e : Entity) → IsClosed D e → IsClosed B e
kept-closed D B keeps e c = record { stands = keeps.stands e c; kind = c.kind; stage = c.stage }

abbrev pub kept-at : (D B : Names) → Keeps D B → (b : Place) → IsClosedAt D b → IsClosedAt B b
kept-at D B keeps b c = (c.0, kept-closed D B keeps c.0 c.1, c.2)

-- what is the same at a closed one
kept-own : (D B : Names) → Keeps D B → (n : List ℕ) (b : Place) → IsClosedAt D b → own B n b ≡ own D n b
kept-own D B keeps n b c = ap (λ p. own B n p) (sym c.2) ∙ keeps.within c.0 c.1 n ∙ ap (λ p. own D n p) c.2

kept-bases : (D B : Names) → Keeps D B → (b : Place) → IsClosedAt D b → bases_at (only B) b ≡ bases_at (only D) b
kept-bases D B keeps b c = bases-there B b (kept-at D B keeps b c) ∙ sym (bases-there D b c)

module _ (D B : Names) (keeps : Keeps D B) (whole : AreWhole D) where
  pub through-on : (n : List ℕ) {bases : List Place} {x : Entity} → ((b : Place) → Contains bases b → IsClosedAt D b) → Through (only D) n bases x → Through (only B) n bases x
  through-on n within t =
      through-same n (only D) (only B) (IsClosedAt D) (λ b c. (kept-own D B keeps n b c, (kept-bases D B keeps b c, within-closed D whole b c))) within t

  pub through-back : (n : List ℕ) {bases : List Place} {x : Entity} → ((b : Place) → Contains bases b → IsClosedAt D b) → Through (only B) n bases x → Through (only D) n bases x
  through-back n within t =
      through-same n (only B) (only D) (IsClosedAt D)
      (λ b c. (sym (kept-own D B keeps n b c), (sym (kept-bases D B keeps b c), λ d i. within-closed D whole b c d (subst (λ bs. Contains bs d) (kept-bases D B keeps b c) i)))) within t

  -- what was whole is so
  pub kept-whole : (e : Entity) → IsClosed D e → IsWhole B e
  kept-whole e c =
      let w = whole e c in
      let here : (b : Place) → Contains (e.path ∷ []) b → IsClosedAt D b = λ b i. (e, c, IsIn-one e.path b (IsIn-Contains b (e.path ∷ []) i)) in
      record {
        own = λ n x h operation. w.own n x (sym (keeps.within e c n) ∙ h) operation;
        base = λ b i. let k = w.base b i in (k.0, kept-closed D B keeps k.0 k.1, k.2, k.3);
        told = λ p i. let t = w.told p i in (t.0, t.1, through-on t.0 here t.2, t.3, t.4);
      }
