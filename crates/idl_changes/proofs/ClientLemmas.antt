-- Where no change counts for clients, they find what they name.
use Rattle.std.proofs.Common.{◌≡◌, ◌∙◌, ◌++◌, ◌∷◌, [], ℕ, Bool, List, None, Option, Some, ap, cond, false, find, flat_map, if◌then◌else◌, is_some, map, nat_eq, refl, sym, true}
use Rattle.std.specs.Cmp.{nat_eq_equiv}
use Rattle.std.specs.Cmp.Lexicographic.{bytes_decides}
use Rattle.std.specs.List.{slice_get}
use Rattle.std.specs.Option.{option_eq}
use Rattle.std.specs.Str.{bytes_eq}
use Rattle.std.proofs.lemmas.Bool.{false≢true}
use Rattle.std.proofs.lemmas.List.Elements.{All-head}
use Rattle.idl_changes.specs.Changes.{changes}
use Rattle.idl_changes.specs.Differences.{gone_bases, gone_line, is_called_locally, new_bases, told}
use Rattle.idl_changes.specs.Laws.{Finds, NoneHas}
use Rattle.idl_changes.specs.Listing.{interface_of, is_called, is_sent_kind, name_at, name_of}
use Rattle.idl_changes.specs.Offered.{ancestors, called_in, inherits, is_offered, offered, offers}
use Rattle.idl_changes.specs.Partners.{is_own_offer, joined}
use Rattle.idl_changes.specs.Rows.{eased, weights_of}
use Rattle.idl_changes.specs.declared.change.Difference.{Difference}
use Rattle.idl_changes.specs.declared.change.Turn.TheVariants as turn
use Rattle.idl_changes.specs.declared.rows.Line.TheVariants as line
use Rattle.idl_changes.specs.declared.rows.Weights.{Weights}
use Rattle.idl_changes.proofs.EntryLemmas.{interface-uncalled}
use Rattle.idl_changes.proofs.HasLemmas.{Has, all-has, found-passes, passes-found}
use Rattle.idl_changes.proofs.InheritLemmas.{called-there, is_offered-up, name_at-is, offers-from}
use Rattle.idl_changes.proofs.JoinedLemmas.{joined-back}
use Rattle.idl_changes.proofs.WeightLemmas.{Lacks, base-goes, lacks-called-gone, lacks-front, lacks-gone, lacks-interface, lacks-joined, lacks-kind, lacks-none, lacks-path}
use Rattle.idl_entity.specs.declared.kind.Kind.{Kind}
use Rattle.idl_repo.specs.declared.details.row_tree.RowTree.{RowTree}

abbrev client : Weights → Bool
client w = w.client

-- what is gone counts for clients, also on a local interface
gone-counts : (k : Kind) → client (weights_of (gone_line k)) ≡ true
gone-counts k = by (is_sent_kind k)
  where
    by : (b : Bool) → client (weights_of (if b then line.SentGone else line.UnsentGone)) ≡ true
    by true = refl
    by false = refl

call-counts : (b : Bool) → Lacks client (if b then map (λ (d : Difference). record d { weights = eased d.weights }) (told line.CalledGone [] turn.Gone) else told line.CalledGone [] turn.Gone) → ⊥
call-counts true all = false≢true (sym (All-head (λ (d : Difference). client d.weights ≡ false) (record { weights = eased (weights_of line.CalledGone); part = []; turn = turn.Gone }) [] all))
call-counts false all = lacks-none client line.CalledGone [] turn.Gone refl all

-- what is found among the first is found
find-front : (test : ℕ → Bool) (xs ys : List ℕ) → is_some (find test xs) ≡ true → find test (xs ++ ys) ≡ find test xs
find-front test [] ys is = cc
find-front test (x ∷ xs) ys is = by (test x) (find-front test xs ys) is
  where
    by : (b : Bool) → (is_some (find test xs) ≡ true → find test (xs ++ ys) ≡ find test xs) → is_some (cond b (Some x) (find test xs)) ≡ true
        → cond b (Some x) (find test (xs ++ ys)) ≡ cond b (Some x) (find test xs)
    by true rest h = refl
    by false rest h = rest h

-- an interface offers one of its own under each name that one of its own has
own-offer : (L : List RowTree) (m g : ℕ) → Has (called_in L m) g → (h : ℕ) × (offered L m (name_at L g) ≡ Some h) × Has (called_in L m) h × (name_at L g ≡ name_at L h)
unfolding offered offers
own-offer L m g own =
    let test = λ (n : ℕ). bytes_eq (name_at L g) (name_at L n) in
    let some = passes-found test (called_in L m) g own ((bytes_decides (name_at L g) (name_at L g)).1 refl) in
    by (find test (called_in L m)) refl some
  where
    by : (found : Option ℕ) → find (λ (n : ℕ). bytes_eq (name_at L g) (name_at L n)) (called_in L m) ≡ found → is_some found ≡ true
        → (h : ℕ) × (find (λ (n : ℕ). bytes_eq (name_at L g) (name_at L n)) (called_in L m ++ flat_map (called_in L) (ancestors L m)) ≡ Some h) × Has (called_in L m) h × (name_at L g ≡ name_at L h)
    by None e some = cc
    by (Some h) e some =
        let test = λ (n : ℕ). bytes_eq (name_at L g) (name_at L n) in
        let passes = found-passes test (called_in L m) h e in
        let front = find-front test (called_in L m) (flat_map (called_in L) (ancestors L m)) (ap is_some e) in
        (h, front ∙ e, passes.0, (bytes_decides (name_at L g) (name_at L h)).0 passes.1)

module _ (old new : List RowTree) (none : NoneHas client (changes old new)) where
  goes-on : (i : ℕ) (e : RowTree) → slice_get old i ≡ Some e → is_called e ≡ false → (k : ℕ) × (joined old new i ≡ Some k)
  goes-on i e at other = by (joined old new i) refl
    where
      by : (found : Option ℕ) → joined old new i ≡ found → (k : ℕ) × (joined old new i ≡ Some k)
      by None is = absurd (lacks-none client (gone_line e.kind) [] turn.Gone (gone-counts e.kind) (lacks-gone client old new none i e at other is))
      by (Some k) is = (k, is)

  -- what is called in the scope of a base that goes on is offered
  of-base : (k m p g : ℕ) → joined old new m ≡ Some p → Has (inherits new k) p → Has (called_in old m) g → is_offered new k (name_at old g) ≡ true
  of-base k m p g is within own =
      let one = own-offer old m g own in
      let h = one.0 in
      let there = called-there old m h one.2 in
      let e = there.0 in
      let name : name_at old g ≡ name_of e.path = one.3 ∙ name_at-is old h e there.1 in
      let own_offer : is_own_offer old m h e ≡ true =
      ap (λ (o : Option ℕ). option_eq nat_eq o (Some h)) (ap (offered old m) (sym name) ∙ one.1) ∙ nat_eq_equiv.refl h
      in
      ap (is_offered new k) name ∙ is_offered-up new k p (name_of e.path) within (by e there.1 there.2 there.3 own_offer (offered new p (name_of e.path)) refl)
    where
      by : (e : RowTree) → slice_get old (own-offer old m g own).0 ≡ Some e → is_called e ≡ true → interface_of old e ≡ Some m
          → is_own_offer old m (own-offer old m g own).0 e ≡ true → (found : Option ℕ) → offered new p (name_of e.path) ≡ found → is_offered new p (name_of e.path) ≡ true
      by e at called scope own_offer None absent =
          absurd (call-counts (is_called_locally old new e) (lacks-called-gone client old new none (own-offer old m g own).0 m p e at called scope own_offer is absent))
      by e at called scope own_offer (Some q) offer = ap is_some offer

pub clients-find : (old new : List RowTree) → NoneHas (λ w. w.client) (changes old new) → Finds old new
clients-find old new none = record {
  named = λ i e at other.
      (let goes = goes-on old new none i e at other in
      let back = joined-back old new i goes.0 goes.1 in
      let all = lacks-joined client old new none i goes.0 e back.0 at other goes.1 back.1 in
      let kinds = lacks-kind client old new none refl i goes.0 e back.0 all in
      (goes.0, back.0, back.1, sym (lacks-path client old new none i goes.0 e back.0 other refl all), sym kinds.0));
  called = λ i e at is.
      (let other = interface-uncalled e is in
      let goes = goes-on old new none i e at other in
      let k = goes.0 in
      let back = joined-back old new i k goes.1 in
      let all = lacks-joined client old new none i k e back.0 at other goes.1 back.1 in
      let body = (lacks-kind client old new none refl i k e back.0 all).1 in
      let bases = lacks-front client (gone_bases old new i k) (new_bases old new i k) (lacks-interface client old new none refl i k e back.0 is body).1 in (
        k,
        goes.1,
        all-has (λ (g : ℕ). is_offered new k (name_at old g) ≡ true) (offers old i)
            (λ g within.
            (let from = offers-from old i g within in
            let base = base-goes client old new none refl i k goes.1 bases from.0 from.1 in
            of-base old new none k from.0 base.0 g base.1 base.2 from.2)),
      ));
}
