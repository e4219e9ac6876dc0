-- Results that are taken again: those whose keys are answered as they were.
use Rattle.std.proofs.Common.{◌≡◌, Bool, true, ℕ, List, [], Option, get_or, map, refl, ap, sym, subst, ◌∙◌}
use Rattle.std.specs.Prelude.{Contains}
use Rattle.std.proofs.lemmas.List.Elements.{All-contains, All-map}
use Rattle.idl_env.specs.Facts.{UnitFacts, answers, world}
use Rattle.idl_env.specs.SameKey.{same_key}
use Rattle.idl_env.specs.declared.answering.answer.Answer.{Answer}
use Rattle.idl_env.specs.declared.keys.key.Key.{Key}
use Rattle.idl_env.specs.keys.Digested.{key_equiv}
use Rattle.idl_env.specs.keys.Key.{key_digest, key_eq}
use Rattle.idl_memo.proofs.QueryLaws.{Agree-from_log, IsLogOf-run, run-agree}
use Rattle.idl_memo.specs.Kept.{IsAlike, Kept, result_over}
use Rattle.idl_memo.specs.Query.{Agree, HoldsIn, IsLogOf, Query, asked, run}
use Rattle.idl_root.proofs.DigestLemmas.{apart-noted, at-map}
use Rattle.idl_root.proofs.FollowingLemmas.{answers-agree}
use Rattle.idl_scope.proofs.FactsLaws.{Agree-outside}
use Rattle.idl_root.specs.Changed.{ShareNone}
use Rattle.idl_root.specs.Followed.{AgreeBut, AreBeside, AreNoted, ArePrinted}
use Rattle.idl_store.specs.Stored.{list_at}
use Rattle.idl_root.specs.Results.{EntryResult}
use Rattle.idl_root.specs.declared.kept.reprinting.Reprinting.{Reprinting}

abbrev digests_in : List (Key × Option Answer) → List ℕ
digests_in log = map (λ e. key_digest e.0) log

-- a log holds still where none of its keys may be answered otherwise
holds-still : (around : Bool) (changed : List ℕ) (before facts : List UnitFacts) (log : List (Key × Option Answer)) → HoldsIn (answers before) log → AgreeBut around changed before facts
    → ShareNone (digests_in log) changed → HoldsIn (answers facts) log
holds-still around changed before facts log own but none =
    let asks : List Key = map (λ (e : Key × Option Answer). e.0) log in
    let noted : AreNoted (digests_in log) asks =
    All-map (λ q. Contains (digests_in log) (key_digest q)) (λ (e : Key × Option Answer). e.0) log (λ k d lt. at-map (λ (e : Key × Option Answer). key_digest e.0) log k d lt) in
    let apart = apart-noted (digests_in log) changed asks but.keys noted but.noted none in
    let agrees : Agree asks (answers before) (answers facts) =
    Agree-outside but.keys asks (answers before) (answers facts) (answers-agree around but.keys (world before) (world facts) but.agree) apart in
    λ k d lt. own k d lt
    ∙ sym (All-contains (λ q. answers facts q ≡ answers before q) asks (get_or log k d).0 agrees (at-map (λ (e : Key × Option Answer). e.0) log k d lt))

module _ {T O : Type 0} (query : T → Query Key (Option Answer) (Unit {0}) O) where
  -- a text asks what its log tells
  logs : (text : T) (bank : Key → Option Answer) → IsLogOf (asked (query text) bank) bank (run key_eq (query text) bank []).1
  logs text = IsLogOf-run key_eq key_equiv.refl same_key (query text)

  -- where its log holds, it comes to the same
  again : (text : T) (bank other : Key → Option Answer) → HoldsIn other (run key_eq (query text) bank []).1 → run key_eq (query text) other [] ≡ run key_eq (query text) bank []
  again text bank other holds = run-agree key_eq (query text) bank other [] (Agree-from_log _ bank other _ (logs text bank) holds)

  -- the result of a text over other facts is that over these
  pub result-again : (around : Bool) (changed : List ℕ) (before facts : List UnitFacts) (k : Kept Key (Option Answer) T O) → k ≡ result_over key_eq query (k.text, answers before)
      → AgreeBut around changed before facts → ShareNone (digests_in k.log) changed → k ≡ result_over key_eq query (k.text, answers facts)
  result-again around changed before facts k own but none =
      let there : Kept Key (Option Answer) T O = result_over key_eq query (k.text, answers before) in
      let log : k.log ≡ there.log = ap (λ (x : Kept Key (Option Answer) T O). x.log) own in
      let clear : ShareNone (digests_in there.log) changed = subst (λ l. ShareNone (digests_in l) changed) log none in
      let holds = holds-still around changed before facts there.log (logs k.text (answers before)).answers but clear in
      let same = again k.text (answers before) (answers facts) holds in
      let over : there ≡ result_over key_eq query (k.text, answers facts) = λ i. record { text = k.text; log = (sym same i).1; out = (sym same i).0 } in
      own ∙ over

  -- the result of a place is alike there
  pub own-alike : (text : T) (facts : List UnitFacts) → IsAlike text (answers facts) (result_over key_eq query (text, answers facts))
  own-alike text facts = record { text_is = refl; answers = (logs text (answers facts)).answers }

-- what comes behind some of the names is beside the same facts
pub beside-rest : (lists : List (List EntryResult)) (r s : Reprinting) (facts : List UnitFacts) → s.list ≡ r.list → s.changed ≡ r.changed → AreBeside lists r facts → AreBeside lists s facts
beside-rest lists r s facts at same b = record {
  before = b.before;
  entries = subst (λ n. ArePrinted b.before (list_at lists n)) (sym at) b.entries;
  but = subst (λ c. AgreeBut true c b.before facts) (sym same) b.but;
}
