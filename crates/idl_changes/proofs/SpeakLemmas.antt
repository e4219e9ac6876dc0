-- Where no change counts on the wire, programs that are built from the two listings speak with each other.
use Rattle.std.proofs.Common.{◌≡◌, ◌∙◌, ◌+◌, ◌≤◌, ◌++◌, ◌∷◌, ◌&&◌, ◌||◌, [], ℕ, zero, suc, All, Bool, Contains, List, None, Option, Some, ap, ap₂, arith, codes, false, filter, if◌then◌else◌, inl, inr, is_some, length, map, nat_eq, not, refl, subst, sym, take, true}
use Rattle.std.specs.Bool.{beq}
use Rattle.std.specs.Cmp.{nat_eq_equiv}
use Rattle.std.specs.Cmp.Lexicographic.{bytes_decides, pointwise}
use Rattle.std.specs.List.{list_any, slice_get}
use Rattle.std.specs.Option.{option_and_then, option_eq, option_map_or, option_or}
use Rattle.std.specs.Str.{bytes_eq}
use Rattle.std.proofs.lemmas.List.Elements.{All-cons, All-nil}
use Rattle.std.proofs.lemmas.Option.{same_Some, slice_get_within}
use Rattle.idl_base.specs.Exact.{both, same_bool, same_list}
use Rattle.idl_changes.specs.Changes.{changes}
use Rattle.idl_changes.specs.Differences.{as_called, body_differences, context_differences, details_differences, direction_differences, entry_differences, flag_differences, gone_bases, gone_line, gone_references, in_a_row, interface_differences, is_called_locally, list_differences, name_of_parameter, new_bases, new_references, own_name, parameter_differences, readonly_line, reference_differences, set_differences, told, type_differences, yes_or_no}
use Rattle.idl_changes.specs.Laws.{NoneHas}
use Rattle.idl_changes.specs.Layout.{Interface, Layout, Nothing, Passed, Unknown, details_layout, entry_layout, layout, reference_layout, value}
use Rattle.idl_changes.specs.Listing.{alias_at, alias_in, alias_of, by_id, has_id, interface_of, is_called, is_interface, is_local, is_local_at, is_sent_kind, name_at, name_of, places_where, type_code_of}
use Rattle.idl_changes.specs.Offered.{ancestors, called_in, inherits, offered, offers}
use Rattle.idl_changes.specs.Partners.{by_path, is_own_offer, is_same_reference, joined}
use Rattle.idl_changes.specs.Rows.{eased}
use Rattle.idl_changes.specs.Speaks.{IsDeclared, IsTaken, Request, Speaks, Takes, get_request, operation_request, parameter_layout, requests, requests_of, set_request}
use Rattle.idl_changes.specs.declared.change.Difference.{Difference}
use Rattle.idl_changes.specs.declared.change.Turn.TheVariants as turn
use Rattle.idl_changes.specs.declared.rows.Item.TheVariants.{Parameter}
use Rattle.idl_changes.specs.declared.rows.Line.TheVariants as line
use Rattle.idl_changes.proofs.EntryLemmas.{interface-uncalled, own-place}
use Rattle.idl_changes.proofs.HasLemmas.{Has, contains-has, has-contains, has-either, has-first}
use Rattle.idl_changes.proofs.InheritLemmas.{called-there, is_offered-up, name_at-is, offered-there, offers-from, offers-own, offers-up, there-offered}
use Rattle.idl_changes.proofs.JoinedLemmas.{by_path-back, joined-back, joined-from, uncalled-by_id, uncalled-joined}
use Rattle.idl_changes.proofs.LayoutLemmas.{AreSent, details-alike, reference-alike, type-alike, wire}
use Rattle.idl_changes.proofs.MatchLemmas.{Paired, all-paired}
use Rattle.idl_changes.proofs.SentLemmas.{any-contains, called-uninterface, details-sent, gone-sent, interface-sent, kind-sent, none-past, sent-uncalled}
use Rattle.idl_changes.proofs.WeightLemmas.{Lacks, ancestor-goes, base-goes, lacks-back, lacks-called, lacks-called-gone, lacks-front, lacks-gone, lacks-id, lacks-interface, lacks-joined, lacks-kind, lacks-none, lacks-unless}
use Rattle.idl_entity.specs.Kind.{kind_eq, same_kind}
use Rattle.idl_entity.specs.declared.kind.Kind.{Kind}
use Rattle.idl_entity.specs.declared.kind.Kind.TheVariants as kind
use Rattle.idl_repo.specs.Row.{direction_word}
use Rattle.idl_repo.specs.declared.details.reference.Reference.{Reference}
use Rattle.idl_repo.specs.declared.details.row_tree.AttributeTree.{AttributeTree}
use Rattle.idl_repo.specs.declared.details.row_tree.OperationTree.{OperationTree}
use Rattle.idl_repo.specs.declared.details.row_tree.ParameterTree.{ParameterTree}
use Rattle.idl_repo.specs.declared.details.row_tree.RowDetails.{RowDetails}
use Rattle.idl_repo.specs.declared.details.row_tree.RowDetails.TheVariants as row
use Rattle.idl_repo.specs.declared.details.row_tree.RowTree.{RowTree}
use Rattle.idl_repo.specs.declared.details.type_code_tree.TypeCodeParts.TheVariants as parts
use Rattle.idl_repo.specs.declared.details.type_tree.LayeredType.{LayeredType}

-- ---- two listings

module _ (old new : List RowTree) (first : IsDeclared old) (second : IsDeclared new) (none : NoneHas wire (changes old new)) where
  -- an entry and the one to which it belongs
  module _ (i k : ℕ) (e f : RowTree) (at : slice_get old i ≡ Some e) (other : is_called e ≡ false) (is : joined old new i ≡ Some k) (there : slice_get new k ≡ Some f) where
    all-told : Lacks wire (entry_differences old new i k e f)
    all-told = lacks-joined wire old new none i k e f at other is there

    kinds : (e.kind ≡ f.kind) × Lacks wire (body_differences old new i k e f)
    kinds = lacks-kind wire old new none refl i k e f all-told

    details-told : is_interface e ≡ false → Lacks wire (details_differences old new e.details f.details)
    details-told apart =
        subst (λ (b : Bool). Lacks wire (if b then interface_differences old new i k e f else details_differences old new e.details f.details)) apart kinds.1

    alias-told : AreSent old new (alias_of e) (alias_of f)
    alias-told = by (kind_eq e.kind kind.Alias) refl
      where
        same : kind_eq f.kind kind.Alias ≡ kind_eq e.kind kind.Alias
        same = ap (λ (j : Kind). kind_eq j kind.Alias) (sym kinds.0)

        by : (b : Bool) → kind_eq e.kind kind.Alias ≡ b → AreSent old new (alias_of e) (alias_of f)
        by false h =
            subst (λ (b : Bool). AreSent old new (if b then option_and_then alias_in (type_code_of e.details) else None) (alias_of f)) (sym h)
            (subst (λ (b : Bool). AreSent old new None (if b then option_and_then alias_in (type_code_of f.details) else None)) (sym (same ∙ h)) tt)
        by true h =
            let no : is_interface e ≡ false = ap (λ (j : Kind). kind_eq j kind.Interface) (same_kind e.kind kind.Alias h) in
            subst (λ (b : Bool). AreSent old new (if b then option_and_then alias_in (type_code_of e.details) else None) (alias_of f)) (sym h)
            (subst (λ (b : Bool). AreSent old new (option_and_then alias_in (type_code_of e.details)) (if b then option_and_then alias_in (type_code_of f.details) else None)) (sym (same ∙ h))
            (details-sent old new e.details f.details (details-told no)))

    entry-alike : (was now : ℕ → Layout) → ((j l : ℕ) → joined old new j ≡ Some l → was j ≡ now l)
        → ((j l : ℕ) → joined old new j ≡ Some l → AreSent old new (alias_at old j) (alias_at new l))
        → entry_layout old was e ≡ entry_layout new now f
    entry-alike was now alike aliases = by (is_interface e) refl (is_sent_kind e.kind) refl
      where
        interface_same : is_interface f ≡ is_interface e
        interface_same = ap (λ (j : Kind). kind_eq j kind.Interface) (sym kinds.0)

        sent_same : is_sent_kind f.kind ≡ is_sent_kind e.kind
        sent_same = ap is_sent_kind (sym kinds.0)

        new-layout : Bool → Bool → Layout
        new-layout a b = if a then Interface f.id (is_local f) else if b then details_layout new now f.id f.details else Unknown

        by : (a : Bool) → is_interface e ≡ a → (b : Bool) → is_sent_kind e.kind ≡ b
            → (if is_interface e then Interface e.id (is_local e) else if is_sent_kind e.kind then details_layout old was e.id e.details else Unknown)
            ≡ (if is_interface f then Interface f.id (is_local f) else if is_sent_kind f.kind then details_layout new now f.id f.details else Unknown)
        by true h b g =
            let id = lacks-id wire old new none i k e f (interface-sent e h) all-told in
            let local = (lacks-interface wire old new none refl i k e f h kinds.1).0 in
            ap (λ (a : Bool). if a then Interface e.id (is_local e) else if is_sent_kind e.kind then details_layout old was e.id e.details else Unknown) h
            ∙ ap₂ Interface id local
            ∙ sym (ap (λ (a : Bool). if a then Interface f.id (is_local f) else if is_sent_kind f.kind then details_layout new now f.id f.details else Unknown) (interface_same ∙ h))
        by false h true g =
            let id = lacks-id wire old new none i k e f (kind-sent e.kind g) all-told in
            let details = details-alike old new was now alike first second aliases e.id e.details f.details (details-told h) in
            ap₂ (λ (a b : Bool). if a then Interface e.id (is_local e) else if b then details_layout old was e.id e.details else Unknown) h g
            ∙ details ∙ ap (λ (d : List ℕ). details_layout new now d f.details) id
            ∙ sym (ap₂ (λ (a b : Bool). if a then Interface f.id (is_local f) else if b then details_layout new now f.id f.details else Unknown) (interface_same ∙ h) (sent_same ∙ g))
        by false h false g =
            ap₂ (λ (a b : Bool). if a then Interface e.id (is_local e) else if b then details_layout old was e.id e.details else Unknown) h g
            ∙ sym (ap₂ (λ (a b : Bool). if a then Interface f.id (is_local f) else if b then details_layout new now f.id f.details else Unknown) (interface_same ∙ h) (sent_same ∙ g))

  aliases : (i k : ℕ) → joined old new i ≡ Some k → AreSent old new (alias_at old i) (alias_at new k)
  aliases i k is =
      let own = joined-from old new i k is in
      let back = joined-back old new i k is in
      subst (λ (o : Option RowTree). AreSent old new (option_and_then alias_of o) (alias_at new k)) (sym own.1)
      (subst (λ (o : Option RowTree). AreSent old new (alias_of own.0) (option_and_then alias_of o)) (sym back.1)
      (alias-told i k own.0 back.0 own.1 own.2 is back.1))

  values : (n i k : ℕ) → joined old new i ≡ Some k → value old n i ≡ value new n k
  unfolding value
  values zero i k is = refl
  values (suc n) i k is =
      let own = joined-from old new i k is in
      let back = joined-back old new i k is in
      ap (λ (o : Option RowTree). option_map_or (entry_layout old (value old n)) o Unknown) own.1
      ∙ entry-alike i k own.0 back.0 own.1 own.2 is back.1 (value old n) (value new n) (values n) aliases
      ∙ sym (ap (λ (o : Option RowTree). option_map_or (entry_layout new (value new n)) o Unknown) back.1)

  -- ---- what is sent goes on under its id

  module _ (i : ℕ) (e : RowTree) (at : slice_get old i ≡ Some e) (other : is_called e ≡ false) where
    -- who has the same id and is joined is so by the id
    joined-by_id : (k : ℕ) (f : RowTree) → joined old new i ≡ Some k → slice_get new k ≡ Some f → e.id ≡ f.id → by_id old new i e ≡ Some k
    joined-by_id k f is there id = by (by_id old new i e) refl (sym (uncalled-joined old new i e at other) ∙ is)
      where
        by : (found : Option ℕ) → by_id old new i e ≡ found → option_or (by_id old new i e) (by_path old new i e) ≡ Some k → by_id old new i e ≡ Some k
        by (Some m) h g = h ∙ sym (ap (λ (o : Option ℕ). option_or o (by_path old new i e)) h) ∙ g
        by None h g =
            let path = sym (ap (λ (o : Option ℕ). option_or o (by_path old new i e)) h) ∙ g in
            let back = by_path-back old new i k e at other h path in
            let one : back.0 ≡ f = same_Some back.0 f (sym back.1 ∙ there) in
            let uncalled : is_called f ≡ false = ap is_called (sym one) ∙ back.2 in
            let lone : by_id new old k f ≡ None = ap (by_id new old k) (sym one) ∙ back.3 in
            let old_has : has_id e.id e ≡ true = ap₂ (λ (a b : Bool). not a && b) other ((bytes_decides e.id e.id).1 refl) in
            let new_has : has_id e.id f ≡ true = ap₂ (λ (a b : Bool). not a && b) uncalled ((bytes_decides e.id f.id).1 id) in
            let own_old = own-place (has_id e.id) 0 i old e at old_has in
            let own_new = own-place (has_id e.id) 0 k new f there new_has in
            let a = length (filter (has_id e.id) (take i old)) in
            let m = length (filter (has_id e.id) (take k new)) in
            let past_new = none-past (places_where (has_id e.id) new) a (sym (uncalled-by_id old new i e at other) ∙ h) in
            let past_old : length (places_where (has_id e.id) old) ≤ m =
            none-past (places_where (has_id e.id) old) m
            (ap (λ (d : List ℕ). slice_get (places_where (has_id d) old) (length (filter (has_id d) (take k new)))) id ∙ sym (uncalled-by_id new old k f there uncalled) ∙ lone)
            in
            let in_old = slice_get_within (places_where (has_id e.id) old) a (0 + i) own_old in
            let in_new = slice_get_within (places_where (has_id e.id) new) m (0 + k) own_new in
            absurd (omega (arith, past_new, past_old, in_old, in_new))

  goes-on : (i : ℕ) (e : RowTree) → slice_get old i ≡ Some e → is_sent_kind e.kind ≡ true → (k : ℕ) × (joined old new i ≡ Some k)
  goes-on i e at sent = by (joined old new i) refl
    where
      by : (found : Option ℕ) → joined old new i ≡ found → (k : ℕ) × (joined old new i ≡ Some k)
      by None h = absurd (lacks-none wire (gone_line e.kind) [] turn.Gone (gone-sent e.kind sent) (lacks-gone wire old new none i e at (sent-uncalled e.kind sent) h))
      by (Some k) h = (k, h)

  sent-goes-on : (i : ℕ) (e : RowTree) → slice_get old i ≡ Some e → is_sent_kind e.kind ≡ true
      → (k : ℕ) × (by_id old new i e ≡ Some k) × ((n : ℕ) → value old n i ≡ value new n k)
  sent-goes-on i e at sent =
      let other = sent-uncalled e.kind sent in
      let goes = goes-on i e at sent in
      let back = joined-back old new i goes.0 goes.1 in
      let all = lacks-joined wire old new none i goes.0 e back.0 at other goes.1 back.1 in
      let id = lacks-id wire old new none i goes.0 e back.0 (kind-sent e.kind sent) all in
      (goes.0, joined-by_id i e at other goes.0 back.0 goes.1 back.1 id, λ n. values n i goes.0 goes.1)

  -- ---- requests, to a depth

  module _ (n : ℕ) where
    type-same : (part : List ℕ) (t u : LayeredType) → Lacks wire (type_differences old new part t u) → layout old (value old n) t ≡ layout new (value new n) u
    type-same part t u all = type-alike old new (value old n) (value new n) (values n) first second aliases part t u all

    parameter-same : (a b : Option ParameterTree) → Paired (λ (p q : ParameterTree). Lacks wire (parameter_differences old new p q)) a b
        → option_map_or (parameter_layout old n) a Nothing ≡ option_map_or (parameter_layout new n) b Nothing
    unfolding parameter_differences
    parameter-same None None pair = refl
    parameter-same None (Some q) pair = absurd pair
    parameter-same (Some p) None pair = absurd pair
    parameter-same (Some p) (Some q) pair =
        let types = type_differences old new (codes "type of parameter " ++ p.member.name) p.member.data_type q.member.data_type in
        let directions = lacks-front wire (direction_differences p q) types pair in
        let same = lacks-unless wire (beq p.goes_in q.goes_in && beq p.comes_out q.comes_out) line.Direction (codes "direction of parameter " ++ p.member.name)
        (turn.Changed (direction_word p.goes_in p.comes_out) (direction_word q.goes_in q.comes_out)) refl directions
        in
        let parts = both (beq p.goes_in q.goes_in) (beq p.comes_out q.comes_out) same in
        let goes = same_bool p.goes_in q.goes_in parts.0 in
        let comes = same_bool p.comes_out q.comes_out parts.1 in
        let type_is = type-same (codes "type of parameter " ++ p.member.name) p.member.data_type q.member.data_type (lacks-back wire (direction_differences p q) types pair) in
        λ i. Passed (goes i) (comes i) (type_is i)

    raised-same : (part : List ℕ) (rs ss : List Reference) → Lacks wire (new_references old new part rs ss)
        → All (Contains (map (reference_layout old (value old n)) rs)) (map (reference_layout new (value new n)) ss)
    raised-same part rs [] all = All-nil (Contains (map (reference_layout old (value old n)) rs))
    raised-same part rs (s ∷ ss) all =
        let test = λ (r : Reference). is_same_reference old new r s in
        let here = if list_any test rs then [] else told line.ExceptionNew (part ++ (codes " " ++ s.path)) turn.New in
        let rest = new_references old new part rs ss in
        let some = lacks-unless wire (list_any test rs) line.ExceptionNew (part ++ (codes " " ++ s.path)) turn.New refl (lacks-front wire here rest all) in
        let one = any-contains test (reference_layout old (value old n)) (reference_layout new (value new n) s)
        (λ r same. reference-alike old new (value old n) (value new n) (values n) r s same) rs some
        in
        All-cons (Contains (map (reference_layout old (value old n)) rs)) (reference_layout new (value new n) s) (map (reference_layout new (value new n)) ss) one
        (raised-same part rs ss (lacks-back wire here rest all))

    references-same : (part : List ℕ) (rs ss : List Reference) → Lacks wire (reference_differences old new part rs ss)
        → All (Contains (map (reference_layout old (value old n)) rs)) (map (reference_layout new (value new n)) ss)
    unfolding reference_differences
    references-same part rs ss all = raised-same part rs ss (lacks-back wire (gone_references old new part rs ss) (new_references old new part rs ss) all)

    Taken-by : List Request → Request → Type 0
    Taken-by taken said = (t : Request) × Contains taken t × Takes said t

    operation-taken : (name : List ℕ) (o p : OperationTree) → Lacks wire (details_differences old new (row.Operation o) (row.Operation p))
        → Takes (operation_request old n name o) (operation_request new n name p)
    operation-taken name o p all =
        let types = type_differences old new (codes "type") o.data_type p.data_type in
        let lists = list_differences Parameter name_of_parameter (parameter_differences old new) o.parameters p.parameters in
        let flags = flag_differences line.Oneway (codes "oneway") o.is_oneway p.is_oneway in
        let raised = reference_differences old new (codes "exception") o.raised p.raised in
        let contexts = context_differences o.contexts p.contexts in
        let behind_types = lacks-back wire types (lists ++ (flags ++ (raised ++ contexts))) all in
        let behind_lists = lacks-back wire lists (flags ++ (raised ++ contexts)) behind_types in
        let behind_flags = lacks-back wire flags (raised ++ contexts) behind_lists in
        let each = λ (k : ℕ). parameter-same (slice_get o.parameters k) (slice_get p.parameters k)
        (all-paired wire Parameter name_of_parameter (parameter_differences old new) refl refl refl o.parameters p.parameters (lacks-front wire lists (flags ++ (raised ++ contexts)) behind_types) k)
        in
        let oneway = lacks-unless wire (beq o.is_oneway p.is_oneway) line.Oneway (codes "oneway") (turn.Changed (yes_or_no o.is_oneway) (yes_or_no p.is_oneway)) refl
        (lacks-front wire flags (raised ++ contexts) behind_lists)
        in
        let same_contexts = lacks-unless wire (pointwise bytes_eq o.contexts p.contexts) line.Context (codes "context") (turn.Changed (in_a_row own_name o.contexts) (in_a_row own_name p.contexts)) refl
        (lacks-back wire raised contexts behind_flags)
        in
        record {
          name = refl;
          is_oneway = same_bool o.is_oneway p.is_oneway oneway;
          outcome = type-same (codes "type") o.data_type p.data_type (lacks-front wire types (lists ++ (flags ++ (raised ++ contexts))) all);
          parameters = λ i k. each k i;
          contexts = same_list bytes_eq (λ x y. (bytes_decides x y).0) o.contexts p.contexts same_contexts;
          raised = references-same (codes "exception") o.raised p.raised (lacks-front wire raised contexts behind_flags);
        }

    module _ (name : List ℕ) (a b : AttributeTree) (all : Lacks wire (details_differences old new (row.Attribute a) (row.Attribute b))) where
      Types : List Difference
      Types = type_differences old new (codes "type") a.data_type b.data_type

      Flags : List Difference
      Flags = flag_differences (readonly_line a.is_readonly) (codes "readonly") a.is_readonly b.is_readonly

      Gets : List Difference
      Gets = reference_differences old new (codes "exception of get") a.raised b.raised

      types-lack : Lacks wire Types
      unfolding Types Flags Gets
      types-lack = lacks-front wire Types (Flags ++ (Gets ++ set_differences old new a b)) all

      rest-lack : Lacks wire Flags × Lacks wire Gets × Lacks wire (set_differences old new a b)
      unfolding Types Flags Gets
      rest-lack =
          let behind = lacks-back wire Types (Flags ++ (Gets ++ set_differences old new a b)) all in
          let two = lacks-back wire Flags (Gets ++ set_differences old new a b) behind in
          (lacks-front wire Flags (Gets ++ set_differences old new a b) behind, lacks-front wire Gets (set_differences old new a b) two, lacks-back wire Gets (set_differences old new a b) two)

      get-taken : Takes (get_request old n name a) (get_request new n name b)
      unfolding Types Gets
      get-taken = record {
        name = refl;
        is_oneway = refl;
        outcome = type-same (codes "type") a.data_type b.data_type types-lack;
        parameters = refl;
        contexts = refl;
        raised = references-same (codes "exception of get") a.raised b.raised rest-lack.1;
      }

      set-taken : a.is_readonly ≡ false → b.is_readonly ≡ false → Takes (set_request old n name a) (set_request new n name b)
      unfolding Types
      set-taken was now =
          let sets = subst (λ (r : Bool). Lacks wire (if r then [] else reference_differences old new (codes "exception of set") a.raised_by_set b.raised_by_set))
          (ap₂ (λ (x y : Bool). x || y) was now) rest-lack.2
          in
          let type_is = type-same (codes "type") a.data_type b.data_type types-lack in
          record {
            name = refl;
            is_oneway = refl;
            outcome = refl;
            parameters = λ i k. option_map_or (Passed true false) (slice_get (type_is i ∷ []) k) Nothing;
            contexts = refl;
            raised = references-same (codes "exception of set") a.raised_by_set b.raised_by_set sets;
          }

      attribute-taken : All (λ said. (t : Request) × Contains (requests_of new n name (row.Attribute b)) t × Takes said t) (requests_of old n name (row.Attribute a))
      unfolding Flags
      attribute-taken = by a.is_readonly refl b.is_readonly refl
        where
          P : List Request → Request → Type 0
          P taken said = (t : Request) × Contains taken t × Takes said t

          by : (x : Bool) → a.is_readonly ≡ x → (y : Bool) → b.is_readonly ≡ y
              → All (λ said. (t : Request) × Contains (get_request new n name b ∷ (if b.is_readonly then [] else set_request new n name b ∷ [])) t × Takes said t)
              (get_request old n name a ∷ (if a.is_readonly then [] else set_request old n name a ∷ []))
          by true was y now =
              subst (λ (r : Bool). All (P (get_request new n name b ∷ (if b.is_readonly then [] else set_request new n name b ∷ []))) (get_request old n name a ∷ (if r then [] else set_request old n name a ∷ []))) (sym was)
              (All-cons (P (get_request new n name b ∷ (if b.is_readonly then [] else set_request new n name b ∷ []))) (get_request old n name a) []
              (get_request new n name b, (0, omega arith, refl), get-taken) (All-nil (P (get_request new n name b ∷ (if b.is_readonly then [] else set_request new n name b ∷ [])))))
          by false was true now =
              absurd (lacks-none wire line.ReadonlyOn (codes "readonly") (turn.Changed (yes_or_no false) (yes_or_no true)) refl
              (subst (λ (r : Bool). Lacks wire (flag_differences (readonly_line r) (codes "readonly") r true)) was
              (subst (λ (r : Bool). Lacks wire (flag_differences (readonly_line a.is_readonly) (codes "readonly") a.is_readonly r)) now rest-lack.0)))
          by false was false now =
              subst (λ (r : Bool). All (P (get_request new n name b ∷ (if r then [] else set_request new n name b ∷ []))) (get_request old n name a ∷ (if a.is_readonly then [] else set_request old n name a ∷ []))) (sym now)
              (subst (λ (r : Bool). All (P (get_request new n name b ∷ set_request new n name b ∷ [])) (get_request old n name a ∷ (if r then [] else set_request old n name a ∷ []))) (sym was)
              (All-cons (P (get_request new n name b ∷ set_request new n name b ∷ [])) (get_request old n name a) (set_request old n name a ∷ [])
              (get_request new n name b, (0, omega arith, refl), get-taken)
              (All-cons (P (get_request new n name b ∷ set_request new n name b ∷ [])) (set_request old n name a) []
              (set_request new n name b, (1, omega arith, refl), set-taken was now) (All-nil (P (get_request new n name b ∷ set_request new n name b ∷ []))))))

    details-taken : (name : List ℕ) (d e : RowDetails) → Lacks wire (details_differences old new d e)
        → All (λ said. (t : Request) × Contains (requests_of new n name e) t × Takes said t) (requests_of old n name d)
    details-taken name row.Nothing row.Nothing all = All-nil (λ said. (t : Request) × Contains [] t × Takes said t)
    details-taken name (row.Type d) (row.Type e) all = All-nil (λ said. (t : Request) × Contains [] t × Takes said t)
    details-taken name (row.Constant c) (row.Constant d) all = All-nil (λ said. (t : Request) × Contains [] t × Takes said t)
    details-taken name (row.Attribute a) (row.Attribute b) all = attribute-taken name a b all
    details-taken name (row.Operation o) (row.Operation p) all =
        All-cons (λ said. (t : Request) × Contains (operation_request new n name p ∷ []) t × Takes said t) (operation_request old n name o) []
        (operation_request new n name p, (0, omega arith, refl), operation-taken name o p all)
        (All-nil (λ said. (t : Request) × Contains (operation_request new n name p ∷ []) t × Takes said t))
    details-taken name d e all = absurd (lacks-none wire line.Kind (codes "row") (turn.Changed (codes "old") (codes "new")) refl all)

  -- ---- an interface that isn't local is taken

  module _ (i k : ℕ) (e : RowTree) (at : slice_get old i ≡ Some e) (is : is_interface e ≡ true) (far : is_local e ≡ false) (joins : joined old new i ≡ Some k) where
    bases-lack : Lacks wire (gone_bases old new i k)
    bases-lack =
        let back = joined-back old new i k joins in
        let all = lacks-joined wire old new none i k e back.0 at (interface-uncalled e is) joins back.1 in
        let body = (lacks-kind wire old new none refl i k e back.0 all).1 in
        lacks-front wire (gone_bases old new i k) (new_bases old new i k) (lacks-interface wire old new none refl i k e back.0 is body).1

    bases-go : (m : ℕ) → Contains (ancestors old i) m → (p : ℕ) × Contains (ancestors new k) p × ((n : ℕ) → value old n m ≡ value new n p)
    bases-go m within =
        let goes = ancestor-goes wire old new none refl i k bases-lack m (contains-has (ancestors old i) m within) in
        (goes.0, has-contains (ancestors new k) goes.0 goes.2, λ n. values n m goes.0 goes.1)

    -- nothing that it inherits is local
    base-far : (m : ℕ) → Has (inherits old i) m → is_local_at old m ≡ false
    base-far m within =
        let own : is_local_at old i ≡ false = ap (λ (o : Option RowTree). option_map_or is_local o false) at ∙ far in
        elim (has-either i m (ancestors old i) within) [
          | inl same ↦ ap (is_local_at old) same ∙ own
          | inr above ↦ first.bases i m own (has-contains (ancestors old i) m above)
        ]

    -- what it offers in a scope, that scope offers
    own-offer : (m g : ℕ) (c : RowTree) → Has (inherits old i) m → Has (called_in old m) g → slice_get old g ≡ Some c → is_own_offer old m g c ≡ true
    own-offer m g c within own there = by (offered old m (name_at old g)) refl (there-offered old m g (offers-own old m m g (has-first m (ancestors old m)) own))
      where
        by : (found : Option ℕ) → offered old m (name_at old g) ≡ found → is_some (offered old m (name_at old g)) ≡ true → option_eq nat_eq (offered old m (name_of c.path)) (Some g) ≡ true
        by None h some = let no = sym (ap is_some h) ∙ some in cc
        by (Some j) h some =
            let found = offered-there old m j (name_at old g) h in
            let mine = offers-up old i m g within (offers-own old m m g (has-first m (ancestors old m)) own) in
            let its = offers-up old i m j within found.0 in
            let one : g ≡ j = first.names i g j (has-contains (offers old i) g mine) (has-contains (offers old i) j its) found.1 in
            ap (λ (o : Option ℕ). option_eq nat_eq o (Some g)) (ap (offered old m) (sym (name_at-is old g c there)) ∙ h ∙ ap Some (sym one)) ∙ nat_eq_equiv.refl g

    not-local : (m g : ℕ) (c : RowTree) → Has (inherits old i) m → is_called c ≡ true → interface_of old c ≡ Some m → is_called_locally old new c ≡ false
    not-local m g c within called scope =
        ap (λ (b : Bool). b && option_map_or (is_local_at old) (interface_of old c) false) called
        ∙ ap (λ (o : Option ℕ). option_map_or (is_local_at old) o false) scope ∙ base-far m within

    plain-called : (c : RowTree) (ds : List Difference) → is_called_locally old new c ≡ false → as_called old new c ds ≡ ds
    plain-called c ds local = ap (λ (b : Bool). if b then map (λ (d : Difference). record d { weights = eased d.weights }) ds else ds) local

    -- what is called on it is taken by what its partner offers under the name
    called-goes : (name : List ℕ) (g : ℕ) → offered old i name ≡ Some g
        → (h : ℕ) × (offered new k name ≡ Some h)
        × ((n : ℕ) → All (λ said. (t : Request) × Contains (requests new n h) t × Takes said t) (requests old n g))
    called-goes name g offer =
        let mine = offered-there old i g name offer in
        let from = offers-from old i g mine.0 in
        let m = from.0 in
        let there = called-there old m g from.2 in
        let base = base-goes wire old new none refl i k joins bases-lack m from.1 in
        let own = own-offer m g there.0 from.1 from.2 there.1 in
        let local = not-local m g there.0 from.1 there.2 there.3 in
        let named : name ≡ name_of there.0.path = mine.1 ∙ name_at-is old g there.0 there.1 in
        by m base.0 there.0 there.1 there.2 there.3 own local base.1 base.2 named (offered new base.0 (name_of there.0.path)) refl
      where
        by : (m p : ℕ) (c : RowTree) → slice_get old g ≡ Some c → is_called c ≡ true → interface_of old c ≡ Some m → is_own_offer old m g c ≡ true → is_called_locally old new c ≡ false
            → joined old new m ≡ Some p → Has (inherits new k) p → name ≡ name_of c.path → (found : Option ℕ) → offered new p (name_of c.path) ≡ found
            → (h : ℕ) × (offered new k name ≡ Some h)
            × ((n : ℕ) → All (λ said. (t : Request) × Contains (requests new n h) t × Takes said t) (requests old n g))
        by m p c here called scope own local goes within named None absent =
            absurd (lacks-none wire line.CalledGone [] turn.Gone refl
            (subst (Lacks wire) (plain-called c (told line.CalledGone [] turn.Gone) local) (lacks-called-gone wire old new none g m p c here called scope own goes absent)))
        by m p c here called scope own local goes within named (Some h) offer_new =
            let its = offered-there new p h (name_of c.path) offer_new in
            let from = offers-from new p h its.0 in
            let f = called-there new from.0 h from.2 in
            let all = subst (Lacks wire) (plain-called c (entry_differences old new g h c f.0) local) (lacks-called wire old new none g m p c here called scope own goes h f.0 offer_new f.1) in
            let body = (lacks-kind wire old new none refl g h c f.0 all).1 in
            let details = subst (λ (b : Bool). Lacks wire (if b then interface_differences old new g h c f.0 else details_differences old new c.details f.0.details)) (called-uninterface c called) body in
            let names : name_of c.path ≡ name_of f.0.path = its.1 ∙ name_at-is new h f.0 f.1 in
            let up = is_offered-up new k p (name_of c.path) within (ap is_some offer_new) in (
              h,
              same-offer (offered new k (name_of c.path)) refl up its named,
              λ n.
                  (subst (λ (o : Option RowTree). All (λ said. (t : Request) × Contains (option_map_or (λ (x : RowTree). requests_of new n (name_of x.path) x.details) o []) t × Takes said t) (requests old n g)) (sym f.1)
                  (subst (λ (o : Option RowTree). All (λ said. (t : Request) × Contains (requests_of new n (name_of f.0.path) f.0.details) t × Takes said t) (option_map_or (λ (x : RowTree). requests_of old n (name_of x.path) x.details) o [])) (sym here)
                  (subst (λ (w : List ℕ). All (λ said. (t : Request) × Contains (requests_of new n w f.0.details) t × Takes said t) (requests_of old n (name_of c.path) c.details)) names
                  (details-taken n (name_of c.path) c.details f.0.details details)))),
            )
          where
            same-offer : (found : Option ℕ) → offered new k (name_of c.path) ≡ found → is_some (offered new k (name_of c.path)) ≡ true
                → Has (offers new p) h × (name_of c.path ≡ name_at new h) → name ≡ name_of c.path → offered new k name ≡ Some h
            same-offer None e some its is_named = let no = sym (ap is_some e) ∙ some in cc
            same-offer (Some j) e some its is_named =
                let there = offered-there new k j (name_of c.path) e in
                let mine = offers-up new k p h within its.0 in
                let one : j ≡ h = second.names k j h (has-contains (offers new k) j there.0) (has-contains (offers new k) h mine) (sym there.1 ∙ its.1) in
                ap (offered new k) is_named ∙ e ∙ ap Some one

    interface-taken : IsTaken old new i k
    interface-taken = record { bases = bases-go; called = called-goes }

pub programs-speak : (old new : List RowTree) → IsDeclared old → IsDeclared new → NoneHas (λ w. w.wire) (changes old new) → Speaks old new
programs-speak old new first second none = record {
  sent = sent-goes-on old new first second none;
  taken = λ i k e at is far by_its_id.
      (let other = interface-uncalled e is in
      let joins = uncalled-joined old new i e at other ∙ ap (λ (o : Option ℕ). option_or o (by_path old new i e)) by_its_id in
      interface-taken old new first second none i k e at is far joins);
}
