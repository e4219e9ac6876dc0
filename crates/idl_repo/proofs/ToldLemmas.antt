-- What a row tells: its text, which is what its tree is printed as, and the ids.
use Rattle.std.proofs.Common.{◌≡◌, ◌∙◌, ℕ, List, [], ◌∷◌, ◌++◌, Bool, true, false, if◌then◌else◌, Option, None, Some, codes, refl, sym, ap, append_assoc, flat_map, map}
use Rattle.std.specs.Option.{option_map, unwrap_or}
use Rattle.std.proofs.lemmas.Grind.{flat_map-append}
use Rattle.std.proofs.lemmas.List.{append-nil}
use Rattle.idl_repo.proofs.WriteLemmas.{ids_in-append, text_over-append}
use Rattle.idl_repo.specs.Pieces.{IdOf, Pieces, Says, asked_of, commas, ids_in, says, text_over, with_commas}
use Rattle.idl_repo.specs.Referred.{Paths, named_by, named_by_labels, named_by_member, named_in, referred}
use Rattle.idl_repo.specs.Row.{attribute_pieces, base_pieces, bases_pieces, behind_id, constant_pieces, context_word, direction_word, flag, kind_word, operation_pieces, parameter_pieces, path_text, references, row_pieces}
use Rattle.idl_repo.specs.TypeCode.{code_pieces, default_of, default_word, element_pieces, entries_of, entry_pieces, enumerator_word, interface_head, label_word, labelled_pieces, layer_end, layers_begin, listed_value, member_pieces, reference, shown, type_behind, type_pieces, typed_pieces}
use Rattle.idl_repo.specs.details.Print.{attribute_text, base_text, case_behind, constant_text, details_text, element_text, member_behind, member_text, operation_text, parameter_text, parts_text, reference_text, references_text, row_of, type_text}
use Rattle.idl_repo.specs.details.Tree.{Bank, attribute_over, case_over, cases_of, constant_over, declared_over, details_over, element_over, id_over, member_over, operation_over, parameter_over, reference_over, references_over, tree_over, type_over, union_over}
use Rattle.idl_repo.specs.declared.details.type_code_tree.TypeCodeParts.TheVariants as parts
use Rattle.idl_entity.specs.Path.{name_of}
use Rattle.idl_entity.specs.declared.data_type.DataType.{DataType}
use Rattle.idl_entity.specs.declared.data_type.Element.{Element}
use Rattle.idl_entity.specs.declared.data_type.Element.TheVariants as element
use Rattle.idl_entity.specs.declared.entity.Entity.{Entity}
use Rattle.idl_entity.specs.declared.kind.Kind.{Kind}
use Rattle.idl_entity.specs.declared.kind.Kind.TheVariants as kind
use Rattle.idl_entity.specs.declared.signature.Member.{Member}
use Rattle.idl_value.specs.declared.value.Value.{Value}

-- over a bank pieces come to this text, and tell the ids of these paths, in order
record Tell (bank : Bank) (p : Pieces) (w : List ℕ) (paths : Paths) : Type 0 where
  pub is : text_over bank p ≡ w
  pub ids : ids_in bank p ≡ flat_map (asked_of bank) paths

tell-nothing : {bank : Bank} → Tell bank [] [] []
unfolding text_over ids_in
tell-nothing {bank} = record { is = refl; ids = refl }

tell-text : {bank : Bank} {p : Pieces} {w : List ℕ} {a : Paths} (text : List ℕ) → Tell bank p w a → Tell bank (Says text ∷ p) (text ++ w) a
unfolding text_over ids_in
tell-text {bank} {p} {w} {a} text h = record { is = ap (λ x. text ++ x) h.is; ids = h.ids }

tell-id : {bank : Bank} {p : Pieces} {w : List ℕ} {a : Paths} (path : List (List ℕ)) → Tell bank p w a → Tell bank (IdOf path ∷ p) (id_over bank path ++ w) (path ∷ a)
unfolding text_over ids_in
tell-id {bank} {p} {w} {a} path h = record { is = ap (λ x. id_over bank path ++ x) h.is; ids = ap (λ keys. asked_of bank path ++ keys) h.ids }

tell-as : {bank : Bank} {p : Pieces} {v w : List ℕ} {a : Paths} → Tell bank p v a → v ≡ w → Tell bank p w a
tell-as {bank} {p} {v} {w} {a} h e = record { is = h.is ∙ e; ids = h.ids }

tell-of : {bank : Bank} {p : Pieces} {w : List ℕ} {a b : Paths} → Tell bank p w a → a ≡ b → Tell bank p w b
tell-of {bank} {p} {w} {a} {b} h e = record { is = h.is; ids = h.ids ∙ ap (flat_map (asked_of bank)) e }

tell-then : {bank : Bank} {p q : Pieces} {v w : List ℕ} {a b : Paths} → Tell bank p v a → Tell bank q w b → Tell bank (p ++ q) (v ++ w) (a ++ b)
tell-then {bank} {p} {q} {v} {w} {a} {b} h g = record {
  is = text_over-append bank p q ∙ ap (λ x. x ++ text_over bank q) h.is ∙ ap (λ x. v ++ x) g.is;
  ids = ids_in-append bank p q ∙ ap (λ keys. keys ++ ids_in bank q) h.ids ∙ ap (λ keys. flat_map (asked_of bank) a ++ keys) g.ids ∙ sym (flat_map-append (asked_of bank) a b);
}

-- what tells no id behind it
tell-last : {bank : Bank} {p q : Pieces} {v w : List ℕ} {a : Paths} → Tell bank p v a → Tell bank q w [] → Tell bank (p ++ q) (v ++ w) a
tell-last {bank} {p} {q} {v} {w} {a} h g = tell-of (tell-then h g) (append-nil a)

-- a text alone, and one at the end
tell-only : {bank : Bank} (text : List ℕ) → Tell bank (says text) text []
tell-only text = tell-as (tell-text text tell-nothing) (append-nil text)

tell-end : {bank : Bank} {p : Pieces} {w : List ℕ} {a : Paths} (text : List ℕ) → Tell bank p w a → Tell bank (p ++ says text) (w ++ text) a
tell-end text h = tell-last h (tell-only text)

-- each of some
tell-each : {bank : Bank} {X Y : Type 0} (f : X → Pieces) (g : X → Y) (text : Y → List ℕ) (h : X → Paths) → ((x : X) → Tell bank (f x) (text (g x)) (h x)) → (xs : List X) → Tell bank (flat_map f xs) (flat_map text (map g xs)) (flat_map h xs)
tell-each f g text h each [] = tell-nothing
tell-each f g text h each (x ∷ xs) = tell-then (each x) (tell-each f g text h each xs)

tell-commas : {bank : Bank} {X Y : Type 0} (f : X → Pieces) (g : X → Y) (text : Y → List ℕ) (h : X → Paths) → ((x : X) → Tell bank (f x) (text (g x)) (h x)) → (xs : List X) → Tell bank (commas f xs) (with_commas text (map g xs)) (flat_map h xs)
tell-commas f g text h each [] = tell-nothing
tell-commas f g text h each (x ∷ xs) = tell-then (each x) (tell-each (λ y. Says (codes ",") ∷ f y) g (λ y. codes "," ++ text y) h (λ y. tell-text (codes ",") (each y)) xs)

-- references
tell-reference : {bank : Bank} (path : List (List ℕ)) → Tell bank (reference path) (reference_text (reference_over bank path)) (path ∷ [])
tell-reference {bank} path = tell-text (codes "@") (tell-as (tell-id path tell-nothing) (append-nil (id_over bank path)))

each-itself : (paths : Paths) → flat_map (λ p. p ∷ []) paths ≡ paths
each-itself [] = refl
each-itself (p ∷ paths) = ap (λ ps. p ∷ ps) (each-itself paths)

tell-references : {bank : Bank} (paths : Paths) → Tell bank (references paths) (references_text (references_over bank paths)) paths
tell-references {bank} paths = tell-of (tell-commas reference (reference_over bank) reference_text (λ p. p ∷ []) tell-reference paths) (each-itself paths)

-- types
tell-element : {bank : Bank} (t : Element) → Tell bank (element_pieces t) (element_text (element_over bank t)) (named_in t)
tell-element (element.Constants t) = tell-only _
tell-element (element.Named path) = tell-reference path
tell-element (element.Unvalued u) = tell-only _

tell-type : {bank : Bank} (t : Option DataType) → Tell bank (type_pieces t) (type_text (type_over bank t)) (named_by t)
tell-type None = tell-text (codes "tk_void") tell-nothing
tell-type (Some t) = tell-text (layers_begin t.layers) (tell-end (flat_map layer_end t.layers) (tell-element t.element))

tell-type_behind : {bank : Bank} (t : Option DataType) → Tell bank (type_behind t) (codes "," ++ type_text (type_over bank t)) (named_by t)
tell-type_behind t = tell-text (codes ",") (tell-type t)

tell-typed : {bank : Bank} (m : Member) → Tell bank (typed_pieces m) (member_text (member_over bank m)) (named_by_member m)
tell-typed m = tell-text m.name (tell-text (codes ":") (tell-type m.data_type))

tell-members : {bank : Bank} (members : List Member) → Tell bank (flat_map member_pieces members) (flat_map member_behind (map (member_over bank) members)) (flat_map named_by_member members)
tell-members {bank} members = tell-each member_pieces (member_over bank) member_behind named_by_member (λ m. tell-text (codes ",") (tell-typed m)) members

-- the entries of a union's labels
tell-entry : {bank : Bank} (m : Member) (label : Option Value) → Tell bank (entry_pieces label m) (case_behind (case_over bank m label)) (named_by_member m)
tell-entry m label = tell-text (codes ",") (tell-text (label_word label) (tell-text (codes ":") (tell-typed m)))

tell-labelled : {bank : Bank} (m : Member) → Tell bank (labelled_pieces m) (flat_map case_behind (cases_of bank m)) (named_by_labels m)
tell-labelled {bank} m = tell-each (λ label. entry_pieces label m) (case_over bank m) case_behind (λ label. named_by_member m) (tell-entry m) m.labels

tell-cases : {bank : Bank} (members : List Member) → Tell bank (flat_map labelled_pieces members) (flat_map case_behind (flat_map (cases_of bank) members)) (flat_map named_by_labels members)
tell-cases [] = tell-nothing
tell-cases {bank} (m ∷ members) = tell-as (tell-then (tell-labelled m) (tell-cases members)) (sym (flat_map-append case_behind (cases_of bank m) (flat_map (cases_of bank) members)))

tell-entries : {bank : Bank} (members : List Member) → Tell bank (entries_of members) (codes "," ++ (default_word (default_of members) ++ flat_map case_behind (flat_map (cases_of bank) members))) (flat_map named_by_labels members)
tell-entries members = tell-text (codes ",") (tell-text (default_word (default_of members)) (tell-cases members))

tell-union : {bank : Bank} (e : Entity) → Tell bank (type_behind e.data_type ++ entries_of (shown e).members) (parts_text (parts.Union (union_over bank e))) (named_by e.data_type ++ flat_map named_by_labels (shown e).members)
tell-union {bank} e =
    tell-as (tell-then (tell-type_behind e.data_type) (tell-entries (shown e).members)) (append_assoc (codes ",") (type_text (type_over bank e.data_type)) _)

-- TypeCodes
abbrev code_text : Bank → List ℕ → Entity → List ℕ → List ℕ
code_text bank head e w = head ++ (id_over bank e.path ++ (codes "," ++ (name_of e.path ++ (w ++ codes ")"))))

tell-code : {bank : Bank} {p : Pieces} {w : List ℕ} {a : Paths} (head : List ℕ) (e : Entity) → Tell bank p w a → Tell bank (code_pieces head e p) (code_text bank head e w) (e.path ∷ a)
tell-code head e inner = tell-text head (tell-id e.path (tell-text (codes ",") (tell-text (name_of e.path) (tell-end (codes ")") inner))))

-- one without bases
tell-alone : {bank : Bank} {p : Pieces} {w : List ℕ} {a : Paths} (head : List ℕ) (e : Entity) → Tell bank p w a → Tell bank (code_pieces head e p) (code_text bank head e w ++ []) (e.path ∷ a)
tell-alone {bank} {p} {w} {a} head e inner = tell-as (tell-code head e inner) (sym (append-nil (code_text bank head e w)))

-- bases
tell-base : {bank : Bank} (paths : Paths) → Tell bank (base_pieces paths) (base_text (references_over bank paths)) paths
tell-base [] = tell-nothing
tell-base (path ∷ paths) = tell-text (codes " base(") (tell-end (codes ")") (tell-references (path ∷ paths)))

tell-bases : {bank : Bank} (paths : Paths) → Tell bank (bases_pieces paths) (codes " bases(" ++ (references_text (references_over bank paths) ++ codes ")")) paths
tell-bases paths = tell-text (codes " bases(") (tell-end (codes ")") (tell-references paths))

-- constants, attributes and operations
tell-value : {bank : Bank} (v : Option Value) → Tell bank (elim v [ None ↦ [] | Some w ↦ says (listed_value w) ]) (unwrap_or (option_map listed_value v) []) []
tell-value None = tell-nothing
tell-value (Some v) = tell-only (listed_value v)

tell-constant : {bank : Bank} (e : Entity) → Tell bank (constant_pieces e) (constant_text (constant_over bank e)) (named_by e.data_type)
tell-constant e = tell-text (codes " ") (tell-last (tell-type e.data_type) (tell-text (codes " ") (tell-value e.value)))

tell-attribute : {bank : Bank} (e : Entity) → Tell bank (attribute_pieces e) (attribute_text (attribute_over bank e)) (named_by e.data_type ++ ((shown e).raised ++ (shown e).raised_by_set))
tell-attribute e =
    tell-text (flag e.is_readonly (codes " readonly "))
    (tell-then (tell-type e.data_type)
    (tell-text (codes " get(")
    (tell-then (tell-references (shown e).raised)
    (tell-text (codes ") set(") (tell-end (codes ")") (tell-references (shown e).raised_by_set))))))

tell-parameter : {bank : Bank} (m : Member) → Tell bank (parameter_pieces m) (parameter_text (parameter_over bank m)) (named_by_member m)
tell-parameter m = tell-text (direction_word m.goes_in m.comes_out) (tell-text (codes " ") (tell-typed m))

contexts-rest : (texts : List (List ℕ)) → flat_map (λ more. codes "," ++ context_word more) texts ≡ flat_map (λ more. codes "," ++ more) (map context_word texts)
contexts-rest [] = refl
contexts-rest (text ∷ texts) = ap (λ w. (codes "," ++ context_word text) ++ w) (contexts-rest texts)

contexts-text : (texts : List (List ℕ)) → with_commas context_word texts ≡ with_commas (λ text. text) (map context_word texts)
contexts-text [] = refl
contexts-text (text ∷ texts) = ap (λ w. context_word text ++ w) (contexts-rest texts)

tell-contexts : {bank : Bank} (texts : List (List ℕ)) → Tell bank (Says (with_commas context_word texts) ∷ says (codes ")")) (with_commas (λ text. text) (map context_word texts) ++ codes ")") []
tell-contexts texts = tell-as (tell-text (with_commas context_word texts) (tell-only (codes ")"))) (ap (λ w. w ++ codes ")") (contexts-text texts))

tell-operation : {bank : Bank} (e : Entity) → Tell bank (operation_pieces e) (operation_text (operation_over bank e)) (named_by e.data_type ++ (flat_map named_by_member (shown e).members ++ (shown e).raised))
tell-operation {bank} e =
    tell-text (flag e.is_oneway (codes " oneway "))
    (tell-then (tell-type e.data_type)
    (tell-text (codes " (")
    (tell-then (tell-commas parameter_pieces (parameter_over bank) parameter_text named_by_member tell-parameter (shown e).members)
    (tell-text (codes ") raises(")
    (tell-last (tell-references (shown e).raised) (tell-text (codes ") context(") (tell-contexts (shown e).contexts)))))))

-- what stands behind the id, of each kind
tell-interface : {bank : Bank} (e : Entity) (is_local : Bool) → Tell bank (code_pieces (interface_head is_local) e [] ++ bases_pieces e.bases) (details_text kind.Interface (declared_over bank e e.bases (if is_local then parts.LocalInterface else parts.ObjectReference))) (e.path ∷ e.bases)
tell-interface e true = tell-then (tell-code (codes " tk_local_interface(") e tell-nothing) (tell-bases e.bases)
tell-interface e false = tell-then (tell-code (codes " tk_objref(") e tell-nothing) (tell-bases e.bases)

tell-behind : {bank : Bank} (k : Kind) (e : Entity) → Tell bank (behind_id k e) (details_text k (details_over bank k e)) (referred k e)
tell-behind kind.Interface e = tell-interface e e.is_local
tell-behind kind.Structure e = tell-then (tell-code (codes " tk_struct(") e (tell-members (shown e).members)) (tell-base e.bases)
tell-behind kind.Union e = tell-alone (codes " tk_union(") e (tell-union e)
tell-behind kind.Exception e = tell-alone (codes " tk_except(") e (tell-members (shown e).members)
tell-behind kind.Enumeration e = tell-alone (codes " tk_enum(") e (tell-only (flat_map enumerator_word e.enumerators))
tell-behind kind.Alias e = tell-alone (codes " tk_alias(") e (tell-type_behind e.data_type)
tell-behind kind.Native e = tell-alone (codes " tk_native(") e tell-nothing
tell-behind kind.Constant e = tell-constant e
tell-behind kind.Attribute e = tell-attribute e
tell-behind kind.Operation e = tell-operation e
tell-behind other e = tell-nothing

tell-row : (bank : Bank) (e : Entity) → Tell bank (row_pieces e) (row_of (tree_over bank e)) (e.path ∷ referred e.kind e)
tell-row bank e =
    tell-text (kind_word e.kind) (tell-text (codes " ") (tell-text (path_text e.path) (tell-text (codes " ") (tell-id e.path (tell-behind e.kind e)))))

-- the row of what is declared so is what its tree is printed as
pub row-printed : (bank : Bank) (e : Entity) → text_over bank (row_pieces e) ≡ row_of (tree_over bank e)
row-printed bank e = (tell-row bank e).is

-- it tells its own id, and behind it those of what it refers to
pub ids-row : (e : Entity) (bank : Bank) → ids_in bank (row_pieces e) ≡ flat_map (asked_of bank) (e.path ∷ referred e.kind e)
ids-row e bank = (tell-row bank e).ids

pub ids-behind : (k : Kind) (e : Entity) (bank : Bank) → ids_in bank (behind_id k e) ≡ flat_map (asked_of bank) (referred k e)
ids-behind k e bank =
    let told : Tell bank (behind_id k e) (details_text k (details_over bank k e)) (referred k e) = tell-behind k e in
    told.ids
