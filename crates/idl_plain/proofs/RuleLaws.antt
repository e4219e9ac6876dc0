-- Rules in fewer words.
use Rattle.std.proofs.Common.{◌≡◌, ◌∙◌, ◌&&◌, ◌||◌, ◌++◌, [], ◌∷◌, ℕ, ℤ, Bool, List, None, Option, Some, ap, append-nil, drop, false, flat_map, length, map, nat_le, pos, refl, slice_get, sym, take, true}
use Rattle.std.specs.List.{list_any}
use Rattle.std.specs.Option.{option_and_then, option_map, option_to_list}
use Rattle.std.specs.Ordering.{int_eq}
use Rattle.std.specs.Prelude.{if◌then◌else◌}
use Rattle.idl_check.specs.tables.Codes.{Table, codes_in, faults_by}
use Rattle.idl_check.specs.tables.Rules.{depth, is_interface, is_useless_default}
use Rattle.idl_check.specs.told.Bodies.{Body, Clauses, told_body, told_innermost, with_innermost}
use Rattle.idl_check.specs.told.Labels.{Labels, is_idle}
use Rattle.idl_check.specs.told.Types.{written_as}
use Rattle.idl_check.specs.walk.AllFaults.{or_else}
use Rattle.idl_check.specs.walk.Placing.{is_module, opened_kind, opening_faults}
use Rattle.idl_check.specs.walk.Walk.{label_target, with_labels}
use Rattle.idl_entity.specs.DataType.{plain_type}
use Rattle.idl_entity.specs.Kind.{kind_eq}
use Rattle.idl_entity.specs.declared.data_type.DataType.{DataType}
use Rattle.idl_entity.specs.declared.data_type.Element.{Element}
use Rattle.idl_entity.specs.declared.kind.Kind.{Kind}
use Rattle.idl_entity.specs.declared.kind.Kind.TheVariants.{Interface, Module}
use Rattle.idl_env.specs.Facts.{more_inside}
use Rattle.idl_env.specs.declared.answering.answer.Answer.{Answer}
use Rattle.idl_env.specs.declared.answering.answer.Scope.{Scope}
use Rattle.idl_env.specs.declared.keys.key.Key.{Key}
use Rattle.idl_fault.specs.declared.code.Code.TheVariants.{NestedTooDeep}
use Rattle.idl_lex.specs.tokens.Tokens.{Token}
use Rattle.idl_parts.specs.declared.part.Shape.{Shape}
use Rattle.idl_parts.specs.declared.part.Shape.TheVariants as shape
use Rattle.idl_plain.proofs.TableLaws.{basics-told}
use Rattle.idl_plain.specs.Types.{type_in}
use Rattle.idl_unit.specs.Ending.{begins, role}
use Rattle.idl_unit.specs.Scoping.{opening_brace}
use Rattle.idl_unit.specs.TokenRules.{fault_at}
use Rattle.idl_unit.specs.declared.fault.Fault.{Fault}
use Rattle.idl_unit.specs.declared.role.Role.{Role}
use Rattle.idl_value.specs.ConstantType.{value_count}
use Rattle.idl_value.specs.declared.constant_type.ConstantType.{ConstantType}

-- ---- tests

pub one : (b : Bool) → b ≡ b || false
one true = refl
one false = refl

pub none : (b : Bool) → false ≡ b && false
none true = refl
none false = refl

pub interface-told : (scopes : List Scope) → is_interface scopes ≡ list_any (λ s. kind_eq s.kind Interface) (take 1 scopes)
interface-told [] = refl
interface-told (s ∷ scopes) = one (kind_eq s.kind Interface)

pub begins-told : (p : Role → Bool) (tokens : List Token) → begins p tokens ≡ list_any (λ t. p (role t)) (take 1 tokens)
begins-told p [] = refl
begins-told p (t ∷ tokens) = one (p (role t))

-- ---- labels

module _ (l : Labels) where
  abbrev matches : Option ℤ → Bool
  matches o = l.has_default && list_any (int_eq (pos (length l.values))) (option_to_list o)

  abbrev idle : Option ℤ → Bool
  idle o = elim o [ None ↦ false | Some n ↦ l.has_default && int_eq (pos (length l.values)) n ]

  count-told : (o : Option ℤ) → idle o ≡ matches o
  count-told None = none l.has_default
  count-told (Some n) = ap (λ (b : Bool). l.has_default && b) (one (int_eq (pos (length l.values)) n))

  abbrev counted : Option ConstantType → Option ℤ
  counted o = elim o [ None ↦ None | Some t ↦ value_count t l.enumerators ]

  target-told : (o : Option ConstantType) → counted o ≡ option_and_then (λ t. value_count t l.enumerators) o
  target-told None = refl
  target-told (Some t) = refl

  idle-told : is_idle l ≡ matches (option_and_then (λ t. value_count t l.enumerators) l.target)
  idle-told = count-told (counted l.target) ∙ ap matches (target-told l.target)

pub useless-told : (unions : List Labels) → is_useless_default unions
    ≡ list_any (λ l. l.has_default && list_any (int_eq (pos (length l.values))) (option_to_list (option_and_then (λ t. value_count t l.enumerators) l.target))) (take 1 unions)
useless-told unions = λ i. list_any (λ (l : Labels). idle-told l i) (take 1 unions)

-- ---- faults

pub steps-told : (turns : ℕ) (answers : Key → Option Answer) (earlier later : List Fault) → or_else turns answers earlier later ≡ elim earlier [ [] ↦ later | f ∷ fs ↦ f ∷ fs ]
steps-told turns answers [] later = refl
steps-told turns answers (f ∷ more) later = refl

module _ (n : ℕ) where
  pub faults-told : (table : Table) → faults_by n table ≡ flat_map (λ row. if row.0 then fault_at n row.1 ∷ [] else []) table
  faults-told [] = refl
  faults-told (row ∷ rows) = by row.0 (faults-told rows)
    where
      by : (b : Bool) → map (fault_at n) (codes_in rows) ≡ flat_map (λ row. if row.0 then fault_at n row.1 ∷ [] else []) rows
          → map (fault_at n) (if b then row.1 ∷ codes_in rows else codes_in rows)
          ≡ (if b then fault_at n row.1 ∷ [] else []) ++ flat_map (λ row. if row.0 then fault_at n row.1 ∷ [] else []) rows
      by true rest = ap (λ (l : List Fault). fault_at n row.1 ∷ l) rest
      by false rest = rest

abbrev depth_faults : Option ℕ → Bool → List Fault
depth_faults o b = elim o [ None ↦ [] | Some n ↦ faults_by n ((b, NestedTooDeep) ∷ []) ]

depth-told : (o : Option ℕ) (b : Bool) → depth_faults o b ≡ (if b then map (λ n. fault_at n NestedTooDeep) (option_to_list o) else [])
depth-told None true = refl
depth-told None false = refl
depth-told (Some n) true = refl
depth-told (Some n) false = refl

pub depths-told : (tokens : List Token) (scopes : List Scope) → opening_faults tokens scopes
    ≡ (if nat_le 64 (depth scopes) then map (λ n. fault_at n NestedTooDeep) (option_to_list (opening_brace tokens)) else [])
depths-told tokens scopes = depth-told (opening_brace tokens) (nat_le 64 (depth scopes))

-- ---- openings, and types

module _ (kind : Kind) where
  abbrev kind_by : Option ℕ → Option Kind
  kind_by o = elim o [ None ↦ None | Some n ↦ Some kind ]

  kind-told : (o : Option ℕ) → kind_by o ≡ option_map (λ n. kind) o
  kind-told None = refl
  kind-told (Some n) = refl

pub opened-told : (tokens : List Token) → opened_kind tokens ≡ option_map (λ n. if begins is_module tokens then Module else Interface) (opening_brace tokens)
opened-told tokens = kind-told (if begins is_module tokens then Module else Interface) (opening_brace tokens)

pub written-told : (s : Shape) (bound : Option ℕ) (before : Option DataType) → written_as s bound before ≡ type_in s bound before
written-told (shape.Basic b) bound before = ap (λ (e : Element). Some (plain_type e)) (basics-told b)
written-told (shape.Text true is_bounded) bound before = refl
written-told (shape.Text false is_bounded) bound before = refl
written-told (shape.Sequence is_bounded) bound None = refl
written-told (shape.Sequence false) bound (Some t) = refl
written-told (shape.Sequence true) None (Some t) = refl
written-told (shape.Sequence true) (Some n) (Some t) = refl

-- ---- the first of a list

pub innermost-told : (clauses : Clauses) (bodies : List Body) → told_innermost clauses bodies ≡ flat_map (told_body clauses) (take 1 bodies)
innermost-told clauses [] = refl
innermost-told clauses (b ∷ bodies) = sym (append-nil (told_body clauses b))

pub bodies-told : (next : Body → Body) (bodies : List Body) → with_innermost next bodies ≡ map next (take 1 bodies) ++ drop 1 bodies
bodies-told next [] = refl
bodies-told next (b ∷ bodies) = refl

pub labels-told : (more : Labels → Labels) (unions : List Labels) → with_labels more unions ≡ map more (take 1 unions) ++ drop 1 unions
labels-told more [] = refl
labels-told more (l ∷ unions) = refl

pub target-first : (unions : List Labels) → label_target unions ≡ option_and_then (λ l. l.target) (slice_get unions 0)
target-first [] = refl
target-first (l ∷ unions) = refl

pub inside-told : (inside : List (List (List (List ℕ)))) (paths : List (List (List ℕ))) → more_inside inside paths ≡ map (λ own. own ++ paths) (take 1 inside) ++ drop 1 inside
inside-told [] paths = refl
inside-told (own ∷ outer) paths = refl
