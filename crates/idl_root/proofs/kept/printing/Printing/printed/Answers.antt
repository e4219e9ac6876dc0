use Rattle.std.proofs.Common.{◌≡◌, ◌∙◌, ◌+◌, ◌∷◌, ◌++◌, List, [], ap, arith, drop, length, map, refl, rules, subst, sym}
use Rattle.std.specs.Option.{option_map}
use Rattle.std.specs.Prelude.{option_to_list, sum_by}
use Rattle.std.proofs.lemmas.List.{at_drop_all, at_drop_more}
use Rattle.idl_env.specs.Facts.{answers}
use Rattle.idl_memo.specs.Meter.{compared_after}
use Rattle.idl_store.specs.Stored.{grown, results_in}
use Rattle.idl_repo.specs.declared.entry.Entry.{Entry}
use Rattle.idl_root.specs.Compared.{entry_keys, shared_entries}
use Rattle.idl_finding.specs.Findings.{fault_finding}
use Rattle.idl_root.specs.Held.{listed_at}
use Rattle.idl_root.specs.Places.{EntryPlace, entries_over}
use Rattle.idl_root.specs.Printed.{Listed, closing_finding, entry_over, entry_row, name_index}
use Rattle.idl_root.specs.Results.{EntryResult, HasDraft, IsEntryPass, entry_result}
use Rattle.idl_root.specs.declared.compiling.printing.Listed.{Listed as HeldListed}
use Rattle.idl_root.proofs.KeptLemmas.{printed-kept, printed-pass, prints-more, prints-one}
use Rattle.idl_root.proofs.PrintLemmas.{printed-more}
use Rattle.idl_root.proofs.SharedLemmas.{compared-met, compared-most, keys-entry, shared-entry, shared-none}
use Rattle.idl_root.proofs.StoredLemmas.{grown-none, has-grown}
use Rattle.idl_unit.specs.TokenRules.{fault_at}
use Rattle.idl_root.proofs.kept.printing.Printing.printed.Goals as goal

pub loop-name-init : goal.loop-name-init
loop-name-init c = (
  search rules,
  search rules,
  refl,
  refl,
  c.requires,
  refl,
  λ has. (has, λ end total pass. pass),
  refl,
  omega arith,
  λ fits. fits,
  λ known has are. (known, (are, refl)),
)

pub loop-name-preserved : goal.loop-name-preserved
loop-name-preserved c =
    let listed = c.args.listed.now in
    let name = c.name-item.result in
    let l : Listed = listed_at name in
    let env = c.args.env.now in
    let printed = c.loop-name.printed in
    let kept = c.loop-name.kept in
    let next = c.entry.new.kept in
    let meter = c.loop-name.self.meter in
    let now = c.entry.new.self.meter in
    let place : EntryPlace = (name.path, answers env) in
    let rest = map listed_at (drop (c.loop-name.name-index + 1) listed) in
    let here : map listed_at (drop c.loop-name.name-index listed) ≡ l ∷ rest =
    at_drop_more (λ (ns : List HeldListed). map listed_at ns) listed c.loop-name.name-index name c.loop-name-test.true ∙ ap (λ n. listed_at n ∷ rest) (sym c.name-item.is) in
    let entry : c.out.result.now ≡ entry_over env name.path =
    c.out.ensures ∙ ap (λ (k : EntryResult). k.out) (c.deref-in-loop-name.ensures ∙ c.in_ok-entry.ensures.obtained.result_is) in
    let findings = c.in_ok-add.ensures.findings ∙ ap (λ (e : Entry). printed.findings.items ++ fault_finding name.unit.text.now name.unit.sites.now (option_map (fault_at (name_index name.unit.text.now)) e.fault)) entry in
    let rows = c.in_ok-add.ensures.rows ∙ ap (λ (e : Entry). printed.rows.items ++ option_to_list e.row) entry in
    let grows = c.in_ok-entry.ensures.obtained.new_is in
    let met = c.in_ok-entry.ensures.obtained.obtained in
    let asked : c.entry_keys.result ≡ entry_keys place = c.entry_keys.ensures ∙ ap (λ (k : EntryResult). length k.log) (c.deref.ensures ∙ c.in_ok-entry.ensures.obtained.result_is) in
    let keys : c.saturating_add-keys.result ≡ compared_after c.loop-name.keys (entry_keys place) = search rules in
    let inv = c.loop-name.invariant in (
      printed-more (closing_finding env) printed.findings.items c.add.new.self.findings.items listed c.loop-name.name-index name c.loop-name-test.true c.name-item.is findings ∙ inv.0,
      printed-more (entry_row env) printed.rows.items c.add.new.self.rows.items listed c.loop-name.name-index name c.loop-name-test.true c.name-item.is rows ∙ inv.1,
      printed-kept kept next env l rest grows
          ∙ ap (λ ns. grown kept (map entry_result (entries_over env ns))) (sym here) ∙ inv.2,
      c.entry.ensures.lists ∙ inv.3,
      c.in_ok-entry.ensures.rest,
      prints-more c.args.self.now.meter meter now inv.5 (prints-one place (results_in kept) meter now met),
      λ has.
          let so = inv.6 has in (
            subst HasDraft (sym grows) (has-grown kept (entry_result place ∷ []) so.0),
            λ end total pass.
                so.1 end total
                (subst (λ ns. IsEntryPass (entries_over env ns) (results_in kept) end meter.printed total) (sym here)
                (printed-pass c.passing.ensures.one c.passing.ensures.both kept next so.0 meter now env l rest grows met end total pass)),
          ),
      keys-entry place (entries_over env rest) c.loop-name.keys c.saturating_add-keys.result keys
          ∙ ap (λ ns. compared_after c.loop-name.keys (sum_by entry_keys (entries_over env ns))) (sym here) ∙ inv.7,
      (let most = compared-most c.loop-name.keys (entry_keys place) in omega (arith, keys, most)),
      λ fits. compared-met place (results_in kept) meter now (inv.9 fits) met,
      λ known has are.
          let so = inv.10 known has are in
          let one = shared-entry c.placement.ensures.some c.placement.ensures.none kept next so.0 place meter now (inv.6 has).0 grows so.1.0 met in (
            so.0 ++ place ∷ [],
            (one.0, one.1 (entries_over env rest) ∙ ap (λ ns. compared_after meter.compared (shared_entries so.0 (entries_over env ns))) (sym here) ∙ so.1.1),
          ),
    )

pub returns-clause-kept : goal.returns-clause-kept
returns-clause-kept c =
    let env = c.args.env.now in
    let kept = c.loop-name.kept in
    let over = at_drop_all (λ (ns : List HeldListed). grown kept (map entry_result (entries_over env (map listed_at ns)))) c.args.listed.now c.loop-name.name-index c.loop-name-test.false in
    sym (sym c.loop-name.invariant.2 ∙ over ∙ grown-none kept)

pub returns-clause-counts : goal.returns-clause-counts
returns-clause-counts c = λ has.
    let env = c.args.env.now in
    let results = results_in c.loop-name.kept in
    let count = c.loop-name.self.meter.printed in
    let none = c.passing.ensures.none results count in
    let over = at_drop_all (λ (ns : List HeldListed). entries_over env (map listed_at ns)) c.args.listed.now c.loop-name.name-index c.loop-name-test.false in
    (c.loop-name.invariant.6 has).1 results count (subst (λ l. IsEntryPass l results results count count) (sym over) none)

pub returns-clause-keys : goal.returns-clause-keys
returns-clause-keys c =
    let env = c.args.env.now in
    let own = c.loop-name.keys in
    let over = at_drop_all (λ (ns : List HeldListed). compared_after own (sum_by entry_keys (entries_over env (map listed_at ns)))) c.args.listed.now c.loop-name.name-index c.loop-name-test.false in
    let all = sym over ∙ c.loop-name.invariant.7 in
    let most = c.loop-name.invariant.8 in
    omega (arith, all, most)

pub returns-clause-compared : goal.returns-clause-compared
returns-clause-compared c = λ fits known has are.
    let env = c.args.env.now in
    let own = c.loop-name.self.meter.compared in
    let so = c.loop-name.invariant.10 known has are in
    let over = at_drop_all (λ (ns : List HeldListed). compared_after own (shared_entries so.0 (entries_over env (map listed_at ns)))) c.args.listed.now c.loop-name.name-index c.loop-name-test.false in
    let all = ap (λ n. compared_after own n) (sym (shared-none so.0)) ∙ sym over ∙ so.1.1 in
    let most = c.loop-name.invariant.9 fits in
    omega (arith, all, most)
