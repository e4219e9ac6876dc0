-- Where no change has a weight, no difference of entries that belong together has it.
use Rattle.std.proofs.Common.{◌≡◌, ◌∙◌, ◌+◌, ◌++◌, ◌&&◌, [], ℕ, All, Bool, List, None, Option, Some, ap, arith, codes, false, flat_map, if◌then◌else◌, inl, inr, is_some, map, nat_eq, refl, subst, sym, true}
use Rattle.std.specs.Bool.{beq}
use Rattle.std.specs.Cmp.Lexicographic.{bytes_decides}
use Rattle.std.specs.List.{enumerate_from, list_any, slice_get}
use Rattle.std.specs.Option.{option_and_then, option_map_or}
use Rattle.std.specs.Str.{bytes_eq}
use Rattle.std.proofs.lemmas.Bool.{false≢true}
use Rattle.std.proofs.lemmas.List.Elements.{All-head}
use Rattle.idl_base.specs.Exact.{same_bool, same_number, same_option}
use Rattle.idl_changes.specs.Changes.{change_at, changes, told_new, told_old, told_with}
use Rattle.idl_changes.specs.Differences.{added_differences, as_called, body_differences, called_gone, called_new, changed, details_differences, differences, entry_differences, gone_bases, gone_differences, gone_line, id_line, interface_differences, is_called_locally, kind_differences, new_bases, path_differences, text_differences, told, yes_or_no}
use Rattle.idl_changes.specs.Laws.{NoneHas}
use Rattle.idl_changes.specs.Listing.{interface_of, is_called, is_interface, is_local, is_local_at, name_of, path_at}
use Rattle.idl_changes.specs.Offered.{ancestors, inherits, offered}
use Rattle.idl_changes.specs.Partners.{called_partner, is_own_offer, is_partner, joined, partner}
use Rattle.idl_changes.specs.Rows.{eased, everyone, weights_of}
use Rattle.idl_changes.specs.declared.change.Change.{Change}
use Rattle.idl_changes.specs.declared.change.Difference.{Difference}
use Rattle.idl_changes.specs.declared.change.Turn.{Turn}
use Rattle.idl_changes.specs.declared.change.Turn.TheVariants as turn
use Rattle.idl_changes.specs.declared.rows.Line.{Line}
use Rattle.idl_changes.specs.declared.rows.Line.TheVariants as line
use Rattle.idl_changes.specs.declared.rows.Weights.{Weights}
use Rattle.idl_changes.proofs.AllLemmas.{All-back, All-each, All-front, All-told, All-unmap}
use Rattle.idl_changes.proofs.HasLemmas.{Has, has-either, has-first, has-rest, one-passes}
use Rattle.idl_entity.specs.Kind.{kind_eq, same_kind}
use Rattle.idl_repo.specs.Row.{kind_word}
use Rattle.idl_repo.specs.declared.details.row_tree.RowTree.{RowTree}

-- no difference has a weight
abbrev pub Lacks : (Weights → Bool) → List Difference → Type 0
Lacks weight told = All (λ d. weight d.weights ≡ false) told

module _ (weight : Weights → Bool) where
  -- what is told unless two are one, with a line that has the weight
  pub lacks-unless : (b : Bool) (l : Line) (part : List ℕ) (what : Turn) → weight (weights_of l) ≡ true → Lacks weight (if b then [] else told l part what) → b ≡ true
  lacks-unless true l part what has all = refl
  lacks-unless false l part what has all =
      absurd (false≢true (sym (All-head (λ (d : Difference). weight d.weights ≡ false) (record { weights = weights_of l; part = part; turn = what }) [] all) ∙ has))

  pub lacks-none : (l : Line) (part : List ℕ) (what : Turn) → weight (weights_of l) ≡ true → Lacks weight (told l part what) → ⊥
  lacks-none l part what has all =
      false≢true (sym (All-head (λ (d : Difference). weight d.weights ≡ false) (record { weights = weights_of l; part = part; turn = what }) [] all) ∙ has)

  pub lacks-text : (l : Line) (part a b : List ℕ) → weight (weights_of l) ≡ true → Lacks weight (text_differences l part a b) → a ≡ b
  lacks-text l part a b has all = (bytes_decides a b).0 (lacks-unless (bytes_eq a b) l part (turn.Changed a b) has all)

  pub lacks-front : (a b : List Difference) → Lacks weight (a ++ b) → Lacks weight a
  lacks-front a b all = All-front (λ (d : Difference). weight d.weights ≡ false) a b all

  pub lacks-back : (a b : List Difference) → Lacks weight (a ++ b) → Lacks weight b
  lacks-back a b all = All-back (λ (d : Difference). weight d.weights ≡ false) a b all

  module _ (old new : List RowTree) (none : NoneHas weight (changes old new)) where
    Clear : List Change → Type 0
    Clear cs = All (λ (c : Change). weight c.difference.weights ≡ false) cs

    clear-old : (i : ℕ) (e : RowTree) → slice_get old i ≡ Some e → Clear (told_old old new i e)
    unfolding Clear
    clear-old i e at =
        let place : i ≡ 0 + i = omega arith in
        All-told (λ (c : Change). weight c.difference.weights ≡ false) (told_old old new) 0 i i old e place at
        (All-front (λ (c : Change). weight c.difference.weights ≡ false) (flat_map (λ (p : ℕ × RowTree). told_old old new p.0 p.1) (enumerate_from 0 old))
        (flat_map (λ (p : ℕ × RowTree). told_new old new p.0 p.1) (enumerate_from 0 new)) none)

    clear-new : (k : ℕ) (f : RowTree) → slice_get new k ≡ Some f → Clear (told_new old new k f)
    unfolding Clear
    clear-new k f at =
        let place : k ≡ 0 + k = omega arith in
        All-told (λ (c : Change). weight c.difference.weights ≡ false) (told_new old new) 0 k k new f place at
        (All-back (λ (c : Change). weight c.difference.weights ≡ false) (flat_map (λ (p : ℕ × RowTree). told_old old new p.0 p.1) (enumerate_from 0 old))
        (flat_map (λ (p : ℕ × RowTree). told_new old new p.0 p.1) (enumerate_from 0 new)) none)

    -- what is told of an old entry, by the one to which it belongs
    clear-by : (i : ℕ) (e : RowTree) → Option ℕ → Type 0
    clear-by i e found =
        Clear (elim found [ None ↦ map (change_at (Some i) None) (gone_differences old new i e) | Some k ↦ told_with old new i e k ])

    clear-with : (i k : ℕ) (e f : RowTree) → slice_get new k ≡ Some f → Clear (told_with old new i e k) → Lacks weight (differences old new i k e f)
    unfolding Clear
    clear-with i k e f at clear =
        All-unmap (λ (c : Change). weight c.difference.weights ≡ false) (change_at (Some i) (Some k)) (differences old new i k e f)
        (subst (λ (o : Option RowTree). All (λ (c : Change). weight c.difference.weights ≡ false) (map (change_at (Some i) (Some k)) (option_map_or (differences old new i k e) o []))) at clear)

    -- of one that isn't called
    partner-uncalled : (i : ℕ) (e : RowTree) → slice_get old i ≡ Some e → is_called e ≡ false → partner old new i ≡ joined old new i
    unfolding partner
    partner-uncalled i e at other =
        ap (option_and_then (λ (f : RowTree). if is_called f then called_partner old new i f else joined old new i)) at
        ∙ ap (λ (b : Bool). if b then called_partner old new i e else joined old new i) other

    plain-uncalled : (i k : ℕ) (e f : RowTree) → is_called e ≡ false → differences old new i k e f ≡ entry_differences old new i k e f
    unfolding differences
    plain-uncalled i k e f other =
        let local : is_called_locally old new e ≡ false = ap (λ (b : Bool). b && option_map_or (is_local_at old) (interface_of old e) false) other in
        ap (λ (b : Bool). if b then map (λ (d : Difference). record d { weights = eased d.weights }) (entry_differences old new i k e f) else entry_differences old new i k e f) local

    pub lacks-joined : (i k : ℕ) (e f : RowTree) → slice_get old i ≡ Some e → is_called e ≡ false → joined old new i ≡ Some k → slice_get new k ≡ Some f
        → Lacks weight (entry_differences old new i k e f)
    unfolding clear-by
    lacks-joined i k e f at other is there =
        let clear : clear-by i e (Some k) = subst (clear-by i e) (partner-uncalled i e at other ∙ is) (clear-old i e at) in
        subst (Lacks weight) (plain-uncalled i k e f other) (clear-with i k e f there clear)

    pub lacks-gone : (i : ℕ) (e : RowTree) → slice_get old i ≡ Some e → is_called e ≡ false → joined old new i ≡ None → Lacks weight (told (gone_line e.kind) [] turn.Gone)
    unfolding clear-by Clear gone_differences
    lacks-gone i e at other is =
        let clear : clear-by i e None = subst (clear-by i e) (partner-uncalled i e at other ∙ is) (clear-old i e at) in
        let plain : gone_differences old new i e ≡ told (gone_line e.kind) [] turn.Gone =
        ap (λ (b : Bool). if b then option_map_or (called_gone old new i e) (interface_of old e) [] else told (gone_line e.kind) [] turn.Gone) other
        in
        subst (Lacks weight) plain (All-unmap (λ (c : Change). weight c.difference.weights ≡ false) (change_at (Some i) None) (gone_differences old new i e) clear)

    -- of a called one that its interface offers, where that belongs to one
    module _ (g o p : ℕ) (e : RowTree) (at : slice_get old g ≡ Some e) (called : is_called e ≡ true) (within : interface_of old e ≡ Some o)
        (own : is_own_offer old o g e ≡ true) (is : joined old new o ≡ Some p) where
      partner-called : partner old new g ≡ offered new p (name_of e.path)
      unfolding partner
      partner-called =
          ap (option_and_then (λ (f : RowTree). if is_called f then called_partner old new g f else joined old new g)) at
          ∙ ap (λ (b : Bool). if b then called_partner old new g e else joined old new g) called
          ∙ ap (option_and_then (λ (q : ℕ). if is_own_offer old q g e then option_and_then (λ (r : ℕ). offered new r (name_of e.path)) (joined old new q) else None)) within
          ∙ ap (λ (b : Bool). if b then option_and_then (λ (r : ℕ). offered new r (name_of e.path)) (joined old new o) else None) own
          ∙ ap (option_and_then (λ (r : ℕ). offered new r (name_of e.path))) is

      pub lacks-called-gone : offered new p (name_of e.path) ≡ None → Lacks weight (as_called old new e (told line.CalledGone [] turn.Gone))
      unfolding clear-by Clear gone_differences
      lacks-called-gone absent =
          let clear : clear-by g e None = subst (clear-by g e) (partner-called ∙ absent) (clear-old g e at) in
          let told_gone : gone_differences old new g e ≡ as_called old new e (told line.CalledGone [] turn.Gone) =
          ap (λ (b : Bool). if b then option_map_or (called_gone old new g e) (interface_of old e) [] else told (gone_line e.kind) [] turn.Gone) called
          ∙ ap (λ (q : Option ℕ). option_map_or (called_gone old new g e) q []) within
          ∙ ap (λ (b : Bool). if b && is_some (joined old new o) then as_called old new e (told line.CalledGone [] turn.Gone) else []) own
          ∙ ap (λ (q : Option ℕ). if is_some q then as_called old new e (told line.CalledGone [] turn.Gone) else []) is
          in
          subst (Lacks weight) told_gone (All-unmap (λ (c : Change). weight c.difference.weights ≡ false) (change_at (Some g) None) (gone_differences old new g e) clear)

      pub lacks-called : (h : ℕ) (f : RowTree) → offered new p (name_of e.path) ≡ Some h → slice_get new h ≡ Some f
          → Lacks weight (as_called old new e (entry_differences old new g h e f))
      unfolding clear-by differences
      lacks-called h f offer there =
          let clear : clear-by g e (Some h) = subst (clear-by g e) (partner-called ∙ offer) (clear-old g e at) in
          clear-with g h e f there clear

    -- of a called one of the new listing, where its interface belongs to one
    pub lacks-called-new : (h j m : ℕ) (f : RowTree) → slice_get new h ≡ Some f → is_called f ≡ true → interface_of new f ≡ Some j → joined new old j ≡ Some m
        → Lacks weight (called_new old new f m)
    unfolding Clear added_differences
    lacks-called-new h j m f at called within is =
        let all = All-unmap (λ (c : Change). weight c.difference.weights ≡ false) (change_at None (Some h)) (added_differences old new h f) (clear-new h f at) in
        let told_added : added_differences old new h f ≡ called_new old new f m =
        ap (λ (b : Bool). if b then option_map_or (called_new old new f) (option_and_then (joined new old) (interface_of new f)) []
        else (if is_some (joined new old h) then [] else told line.EntryNew [] turn.New)) called
        ∙ ap (λ (q : Option ℕ). option_map_or (called_new old new f) (option_and_then (joined new old) q) []) within
        ∙ ap (λ (q : Option ℕ). option_map_or (called_new old new f) q []) is
        in
        subst (Lacks weight) told_added all

    -- kinds are one, and of interfaces whether they are local
    pub lacks-kind : weight everyone ≡ true → (i k : ℕ) (e f : RowTree) → Lacks weight (entry_differences old new i k e f)
        → (e.kind ≡ f.kind) × Lacks weight (body_differences old new i k e f)
    lacks-kind has i k e f all =
        by (kind_eq e.kind f.kind) refl
        (lacks-back (path_differences old new e f) (kind_differences old new i k e f)
        (lacks-back (text_differences (id_line e.kind) (codes "id") e.id f.id) (path_differences old new e f ++ kind_differences old new i k e f) all))
      where
        by : (b : Bool) → kind_eq e.kind f.kind ≡ b
            → Lacks weight (if b then body_differences old new i k e f else changed line.Kind (codes "kind") (kind_word e.kind) (kind_word f.kind))
            → (e.kind ≡ f.kind) × Lacks weight (body_differences old new i k e f)
        by true is kinds = (same_kind e.kind f.kind is, kinds)
        by false is kinds = absurd (lacks-none line.Kind (codes "kind") (turn.Changed (kind_word e.kind) (kind_word f.kind)) has kinds)

    pub lacks-interface : weight everyone ≡ true → (i k : ℕ) (e f : RowTree) → is_interface e ≡ true → Lacks weight (body_differences old new i k e f)
        → (is_local e ≡ is_local f) × Lacks weight (gone_bases old new i k ++ new_bases old new i k)
    unfolding interface_differences
    lacks-interface has i k e f is all =
        by (beq (is_local e) (is_local f)) refl
        (subst (λ (b : Bool). Lacks weight (if b then interface_differences old new i k e f else details_differences old new e.details f.details)) is all)
      where
        by : (b : Bool) → beq (is_local e) (is_local f) ≡ b
            → Lacks weight (if b then gone_bases old new i k ++ new_bases old new i k else changed line.Local (codes "local") (yes_or_no (is_local e)) (yes_or_no (is_local f)))
            → (is_local e ≡ is_local f) × Lacks weight (gone_bases old new i k ++ new_bases old new i k)
        by true same bases = (same_bool (is_local e) (is_local f) same, bases)
        by false same bases = absurd (lacks-none line.Local (codes "local") (turn.Changed (yes_or_no (is_local e)) (yes_or_no (is_local f))) has bases)

    pub lacks-path : (i k : ℕ) (e f : RowTree) → is_called e ≡ false → weight (weights_of line.Path) ≡ true → Lacks weight (entry_differences old new i k e f) → e.path ≡ f.path
    lacks-path i k e f other has all =
        let ids = text_differences (id_line e.kind) (codes "id") e.id f.id in
        let paths = lacks-front (path_differences old new e f) (kind_differences old new i k e f) (lacks-back ids (path_differences old new e f ++ kind_differences old new i k e f) all) in
        lacks-text line.Path (codes "path") e.path f.path has
        (subst (λ (b : Bool). Lacks weight (if b then [] else text_differences line.Path (codes "path") e.path f.path)) other paths)

    pub lacks-id : (i k : ℕ) (e f : RowTree) → weight (weights_of (id_line e.kind)) ≡ true → Lacks weight (entry_differences old new i k e f) → e.id ≡ f.id
    lacks-id i k e f has all =
        lacks-text (id_line e.kind) (codes "id") e.id f.id has
        (lacks-front (text_differences (id_line e.kind) (codes "id") e.id f.id) (path_differences old new e f ++ kind_differences old new i k e f) all)

    -- what an interface inherits goes on, where a base that is gone has the weight
    pub ancestor-goes : weight (weights_of line.BaseGone) ≡ true → (i k : ℕ) → Lacks weight (gone_bases old new i k)
        → (m : ℕ) → Has (ancestors old i) m → (p : ℕ) × (joined old new m ≡ Some p) × Has (ancestors new k) p
    ancestor-goes has i k gone m above =
        let test = λ (n : ℕ). is_partner old new m (Some n) in
        let one = All-each (λ (d : Difference). weight d.weights ≡ false)
        (λ (n : ℕ). if list_any (λ (q : ℕ). is_partner old new n (Some q)) (ancestors new k) then [] else told line.BaseGone (codes "base " ++ path_at old n) turn.Gone) (ancestors old i) m above gone
        in
        let some = one-passes test (ancestors new k) (lacks-unless (list_any test (ancestors new k)) line.BaseGone (codes "base " ++ path_at old m) turn.Gone has one) in
        (some.0, same_option nat_eq same_number (joined old new m) (Some some.0) some.2, some.1)

    pub base-goes : weight (weights_of line.BaseGone) ≡ true → (i k : ℕ) → joined old new i ≡ Some k → Lacks weight (gone_bases old new i k)
        → (m : ℕ) → Has (inherits old i) m → (p : ℕ) × (joined old new m ≡ Some p) × Has (inherits new k) p
    base-goes has i k is gone m within = elim (has-either i m (ancestors old i) within) [
      | inl e ↦ (k, ap (joined old new) e ∙ is, has-first k (ancestors new k))
      | inr above ↦ let goes = ancestor-goes has i k gone m above in (goes.0, goes.1, has-rest k goes.0 (ancestors new k) goes.2)
    ]
