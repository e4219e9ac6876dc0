-- The order of entities, which has no meaning and lets them be looked up.
use Rattle.std.specs.Prelude.{◌≡◌, ℕ, List, Option, None, Some, Bool, false, true, refl}
use Rattle.std.proofs.Common.{ap, ◌∙◌}
use Rattle.std.specs.Bool.{beq}
use Rattle.std.proofs.lemmas.Cmp.{lists_total, nat_cmp_total, nat_list_cmp_total, on_total, then_total}
use Rattle.std.specs.Cmp.{IsTotalOrder, bool_cmp_total, both_tied, unsigned_ties}
use Rattle.std.specs.Cmp.Lexicographic.{lists_ties, options_total, slice_cmp, texts_ties}
use Rattle.std.specs.Option.{option_cmp, option_eq}
use Rattle.std.specs.Ordering.{bool_cmp, eq_by_cmp, is_eq, nat_cmp, on, ordering_then, then_cmp}
use Rattle.std.specs.declared.cmp.Ordering.{Ordering}
use Rattle.std.specs.declared.cmp.Ordering.TheVariants.{Less, Equal, Greater}
use Rattle.idl_entity.specs.Entity.{Entity, declared_eq, entity_eq, pathless_eq}
use Rattle.idl_entity.specs.Kind.{kind_number, stage_number}
use Rattle.idl_entity.specs.Path.{path_eq}
use Rattle.idl_entity.specs.contracts.data_type.DataTypeOrd.TheImpl.{ghosts as data_types}
use Rattle.idl_entity.specs.contracts.data_type.DataTypeOrd.TheImpl.Laws.{matches_eq-law as data_type_ties, total-law as data_type_total}
use Rattle.idl_entity.specs.contracts.signature.SignatureOrd.TheImpl.{ghosts as signatures}
use Rattle.idl_entity.specs.contracts.signature.SignatureOrd.TheImpl.Laws.{matches_eq-law as signature_ties, total-law as signature_total}
use Rattle.idl_value.specs.idl_map.Order.{backwards_cmp, backwards_ties, backwards_total}
use Rattle.idl_value.specs.contracts.value.ValueOrd.TheImpl.{ghosts as values}
use Rattle.idl_value.specs.contracts.value.ValueOrd.TheImpl.Laws.{matches_eq-law as value_ties, total-law as value_total}

-- the order of paths
abbrev pub path_cmp : List (List ℕ) → List (List ℕ) → Ordering
path_cmp = slice_cmp (slice_cmp nat_cmp)

-- by what the names are declared as
abbrev pub nature_cmp : Entity → Entity → Ordering
nature_cmp =
    then_cmp (then_cmp (then_cmp (then_cmp
    (on (λ e. kind_number e.kind) nat_cmp)
    (on (λ e. e.is_local) bool_cmp))
    (on (λ e. e.is_readonly) bool_cmp))
    (on (λ e. e.is_oneway) bool_cmp))
    (on (λ e. stage_number e.stage) nat_cmp)

-- by what they are declared with
abbrev pub declared_cmp : Entity → Entity → Ordering
declared_cmp =
    then_cmp (then_cmp (then_cmp (then_cmp (then_cmp
    (on (λ e. e.data_type) (option_cmp data_types.cmp))
    (on (λ e. e.bases) (slice_cmp path_cmp)))
    (on (λ e. e.operations) (backwards_cmp path_cmp)))
    (on (λ e. e.value) (option_cmp values.cmp)))
    (on (λ e. e.enumerators) (slice_cmp (slice_cmp nat_cmp))))
    (on (λ e. e.signature) (option_cmp signatures.cmp))

-- by all that is known of them
abbrev pub entity_cmp : Entity → Entity → Ordering
entity_cmp = then_cmp (then_cmp (on (λ e. e.path) path_cmp) nature_cmp) declared_cmp

paths_total : IsTotalOrder path_cmp
paths_total = lists_total nat_list_cmp_total

nature_total : IsTotalOrder nature_cmp
nature_total =
    then_total (then_total (then_total (then_total
    (on_total (λ (e : Entity). kind_number e.kind) nat_cmp_total)
    (on_total (λ (e : Entity). e.is_local) bool_cmp_total))
    (on_total (λ (e : Entity). e.is_readonly) bool_cmp_total))
    (on_total (λ (e : Entity). e.is_oneway) bool_cmp_total))
    (on_total (λ (e : Entity). stage_number e.stage) nat_cmp_total)

declared_total : IsTotalOrder declared_cmp
declared_total =
    then_total (then_total (then_total (then_total (then_total
    (on_total (λ (e : Entity). e.data_type) (options_total data_type_total))
    (on_total (λ (e : Entity). e.bases) (lists_total paths_total)))
    (on_total (λ (e : Entity). e.operations) (backwards_total paths_total)))
    (on_total (λ (e : Entity). e.value) (options_total value_total)))
    (on_total (λ (e : Entity). e.enumerators) (lists_total nat_list_cmp_total)))
    (on_total (λ (e : Entity). e.signature) (options_total signature_total))

pub entity_total : IsTotalOrder entity_cmp
entity_total =
    then_total (then_total (on_total (λ (e : Entity). e.path) paths_total) nature_total) declared_total

flags_tie : (x y : Bool) → beq x y ≡ eq_by_cmp bool_cmp x y
flags_tie true true = refl
flags_tie true false = refl
flags_tie false true = refl
flags_tie false false = refl

options_tie : {X : Type 0} {eq : X → X → Bool} (R : X → X → Ordering)
    → ((x y : X) → eq x y ≡ eq_by_cmp R x y)
    → (o p : Option X) → option_eq eq o p ≡ eq_by_cmp (option_cmp R) o p
options_tie R ties None None = refl
options_tie R ties None (Some y) = refl
options_tie R ties (Some x) None = refl
options_tie R ties (Some x) (Some y) = ties x y

paths_tie : (p q : List (List ℕ)) → path_eq p q ≡ eq_by_cmp path_cmp p q
paths_tie = lists_ties (slice_cmp nat_cmp) texts_ties

grouped : (a b c : Ordering)
    → ordering_then a (ordering_then b c) ≡ ordering_then (ordering_then a b) c
grouped Less b c = refl
grouped Equal b c = refl
grouped Greater b c = refl

-- six orders, one after another
six_grouped : (a b c d g h : Ordering)
    → ordering_then a (ordering_then b (ordering_then c (ordering_then d (ordering_then g h))))
    ≡ ordering_then (ordering_then (ordering_then (ordering_then (ordering_then a b) c) d) g) h
six_grouped a b c d g h =
    let ab = ordering_then a b in
    let abc = ordering_then ab c in
    grouped a b (ordering_then c (ordering_then d (ordering_then g h)))
    ∙ grouped ab c (ordering_then d (ordering_then g h))
    ∙ grouped abc d (ordering_then g h)
    ∙ grouped (ordering_then abc d) g h

declared_ties : (e f : Entity) → declared_eq e f ≡ eq_by_cmp declared_cmp e f
declared_ties e f =
    both_tied _ _ _ _ (options_tie data_types.cmp data_type_ties e.data_type f.data_type)
    (both_tied _ _ _ _ (lists_ties path_cmp paths_tie e.bases f.bases)
    (both_tied _ _ _ _ (backwards_ties path_cmp paths_tie e.operations f.operations)
    (both_tied _ _ _ _ (options_tie values.cmp value_ties e.value f.value)
    (both_tied _ _ _ _ (lists_ties (slice_cmp nat_cmp) texts_ties e.enumerators f.enumerators)
    (options_tie signatures.cmp signature_ties e.signature f.signature)))))
    ∙ ap is_eq (six_grouped
    (option_cmp data_types.cmp e.data_type f.data_type)
    (slice_cmp path_cmp e.bases f.bases)
    (backwards_cmp path_cmp e.operations f.operations)
    (option_cmp values.cmp e.value f.value)
    (slice_cmp (slice_cmp nat_cmp) e.enumerators f.enumerators)
    (option_cmp signatures.cmp e.signature f.signature))

pathless_ties : (e f : Entity)
    → pathless_eq e f ≡ is_eq (ordering_then (nature_cmp e f) (declared_cmp e f))
pathless_ties e f =
    both_tied _ _ _ _ (unsigned_ties (kind_number e.kind) (kind_number f.kind))
    (both_tied _ _ _ _ (flags_tie e.is_local f.is_local)
    (both_tied _ _ _ _ (flags_tie e.is_readonly f.is_readonly)
    (both_tied _ _ _ _ (flags_tie e.is_oneway f.is_oneway)
    (both_tied _ _ _ _ (unsigned_ties (stage_number e.stage) (stage_number f.stage))
    (declared_ties e f)))))
    ∙ ap is_eq (six_grouped
    (nat_cmp (kind_number e.kind) (kind_number f.kind))
    (bool_cmp e.is_local f.is_local)
    (bool_cmp e.is_readonly f.is_readonly)
    (bool_cmp e.is_oneway f.is_oneway)
    (nat_cmp (stage_number e.stage) (stage_number f.stage))
    (declared_cmp e f))

pub entity_ties : (e f : Entity) → entity_eq e f ≡ eq_by_cmp entity_cmp e f
entity_ties e f =
    both_tied _ _ _ _ (paths_tie e.path f.path) (pathless_ties e f)
    ∙ ap is_eq (grouped (path_cmp e.path f.path) (nature_cmp e f) (declared_cmp e f))
