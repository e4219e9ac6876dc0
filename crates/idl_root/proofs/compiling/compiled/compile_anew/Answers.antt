use Rattle.std.proofs.Common.{◌≡◌, ◌≤◌, ◌∙◌, ◌++◌, List, Some, [], ap, map, refl, rules, arith, subst, sym}
use Rattle.std.specs.Prelude.{IfSome, sum_by}
use Rattle.idl_root_blocks.proofs.IdlCheckLaws.ToldLaws.{told-nothing}
use Rattle.idl_root_blocks.specs.idl_check_laws.Closing.{AreTold}
use Rattle.idl_kept.specs.Texts.{Texts}
use Rattle.idl_memo.specs.Meter.{compared_after, most_compared}
use Rattle.idl_store.specs.Stored.{Stored, begun, grown, results_in}
use Rattle.idl_memo.specs.declared.meter.Meter.{Meter}
use Rattle.idl_root.specs.AsBefore.{kept_lists}
use Rattle.idl_root.specs.Compared.{entry_keys, shared_entries}
use Rattle.idl_root.specs.Compile.{Outcome, compile, outcome_of, told}
use Rattle.idl_root.specs.Followed.{AreBeside}
use Rattle.idl_root.specs.Held.{held, listed_at}
use Rattle.idl_root.specs.Passed.{HasDrafts}
use Rattle.idl_root.specs.Places.{entries_of, entries_over}
use Rattle.idl_root.specs.Results.{EntryResult, HasDraft, IsEntryPass, PrintsOnly, RootMarks, entry_result, marks_of}
use Rattle.idl_root.specs.declared.compiling.printing.Listed.{Listed as HeldListed}
use Rattle.idl_root.proofs.CompileLemmas.{declarations-passed, entries-are, entries-drafted, entries-passed, expands-none, judged-all, printed-there, start-keeping, start-printed, start-there}
use Rattle.idl_root.proofs.FactsTold.{within-words}
use Rattle.idl_root.proofs.JudgingLemmas.{told-ended}
use Rattle.idl_root.proofs.MadeLemmas.{begins-made, blocks-made, compared-made, declarations-made, keys-made}
use Rattle.idl_root.proofs.StoredLemmas.{begun-results, has-begun}
use Rattle.idl_root.proofs.TakenLemmas.{some-weaker}
use Rattle.idl_root.proofs.compiling.compiled.compile_anew.Goals as goal

-- the judging begins beside what is kept
pub with_all_kept-requires-clause-keeping : goal.with_all_kept-requires-clause-keeping
with_all_kept-requires-clause-keeping c =
    let old = c.args.keeper.now.texts.declarations in
    let root = c.args.before in
    let begins : c.begin.new.self.texts.declarations ≡ begun old root.at = ap (λ (t : Texts). t.declarations) c.in_ok-begin.ensures.texts in
    start-keeping old c.begin.new.self.texts.declarations root.at c.in_ok-keeping.keeping c.in_ok-first.first.env begins (ap (λ (o : Outcome). o.facts) c.in_ok-first.ensures)
    (c.in_ok-keeping.ensures.keeping old.lists
    (start-there old.lists c.new-earlier.result root.at root.marks.now.value c.new-earlier.ensures.list c.new-earlier.ensures.place (c.new-earlier.ensures.marks ∙ ap (λ (m : RootMarks). m.marks) c.deref.ensures)
    c.requires.kept.0 (kept_lists c.args.keeper.now root.at) refl c.requires.kept.1))

pub with_all_kept-requires-clause-told : goal.with_all_kept-requires-clause-told
with_all_kept-requires-clause-told c = subst AreTold (sym (ap (λ (o : Outcome). o.facts) c.in_ok-first.ensures)) told-nothing

pub with_all_kept-requires-clause-drafts : goal.with_all_kept-requires-clause-drafts
with_all_kept-requires-clause-drafts c =
    let old = c.args.keeper.now.texts in
    let at = c.args.before.at in
    subst HasDrafts (sym c.in_ok-begin.ensures.texts)
    (record { declarations = has-begun old.declarations at; blocks = has-begun old.blocks at; begins = has-begun old.begins at })

-- the printing begins beside what is kept
pub printed-requires : goal.printed-requires
printed-requires c =
    let old = c.args.keeper.now in
    let root = c.args.before in
    let course = c.new-earlier.result in
    let env = c.in_ok-judging.judging.env in
    let lists = c.with_all_kept.new.kept.declarations.lists in
    let entries = c.begin.new.self.entries.lists in
    let same : lists ≡ old.texts.declarations.lists = c.with_all_kept.ensures.lists.declarations ∙ c.begin.ensures.lists.texts.declarations in
    let there : entries ≡ old.entries.lists = c.begin.ensures.lists.entries in
    let earlier : c.with_all_kept.new.keeping.earlier ≡ course = c.with_all_kept.ensures.earlier ∙ c.in_ok-keeping.ensures.earlier in
    let printed = printed-there lists old.texts.declarations.lists c.with_all_kept.new.keeping.earlier course root.at entries old.entries.lists same earlier c.new-earlier.ensures.list there
    (start-printed old.texts.declarations.lists course root.at root.marks.now.value c.new-earlier.ensures.list c.new-earlier.ensures.place (c.new-earlier.ensures.marks ∙ ap (λ (m : RootMarks). m.marks) c.deref.ensures)
    c.requires.kept.0 (kept_lists old root.at) refl c.requires.kept.1) in
    subst (λ o. IfSome o (λ r. AreBeside entries r env)) (sym c.new-printing.ensures.reprinting)
    (some-weaker c.ended-marks.result.1 _ _ (λ r told. told lists env entries c.in_ok-judging.ensures.keeping.follows printed) c.ended-marks.ensures.reprinting)

pub returns-clause-compiled : goal.returns-clause-compiled
unfolding compile
returns-clause-compiled c =
    let events = c.args.source.1.now in
    let end = c.args.source.0.now in
    let judging = held c.in_ok-judging.judging in
    let all : judging ≡ outcome_of events =
    judged-all events c.args.source.2.now c.in_ok-findings.findings.items (held c.in_ok-first.first) judging c.requires.units c.in_ok-findings.ensures c.in_ok-first.ensures c.in_ok-judging.ensures.held in
    c.in_ok-compiled.ensures ∙ told-ended end events c.ended-ended.result judging c.ended-ended.ensures ∙ ap (told end events) all

pub returns-clause-within : goal.returns-clause-within
returns-clause-within c =
    let events = c.args.source.1.now in
    let judging = held c.in_ok-judging.judging in
    let all : judging ≡ outcome_of events =
    judged-all events c.args.source.2.now c.in_ok-findings.findings.items (held c.in_ok-first.first) judging c.requires.units c.in_ok-findings.ensures c.in_ok-first.ensures c.in_ok-judging.ensures.held in
    within-words events judging.facts (ap (λ (o : Outcome). o.facts) all) c.bound.ensures.turns c.bound.ensures.count

pub returns-clause-marks : goal.returns-clause-marks
returns-clause-marks c =
    let events = c.args.source.1.now in
    let judging = held c.in_ok-judging.judging in
    let all : judging ≡ outcome_of events =
    judged-all events c.args.source.2.now c.in_ok-findings.findings.items (held c.in_ok-first.first) judging c.requires.units c.in_ok-findings.ensures c.in_ok-first.ensures c.in_ok-judging.ensures.held in
    let places : entries_over judging.facts judging.listed ≡ entries_of events = entries-are events judging all in
    let none = ap (λ (o : Outcome). o.facts) c.in_ok-first.ensures in
    let own : c.in_ok-keeping.keeping.keys ≤ most_compared = omega (arith, c.in_ok-keeping.ensures.keys) in
    let names = c.in_ok-printed.ensures.keys
    ∙ ap (λ (l : List HeldListed). compared_after c.new-printing.result.keys (sum_by entry_keys (entries_over judging.facts (map listed_at l)))) c.as_slice-listed.ensures.value in
    let keys = keys-made events c.args.keeper.now.texts c.begin.new.self.texts c.args.before.at c.in_ok-first.first.env c.args.source.2.now c.in_ok-begin.ensures.texts none c.requires.units
    c.with_all_kept.new.keeping.keys c.printed.new.self.keys c.saturating_add-keys.result c.in_ok-keeping.keeping.keys c.new-printing.result.keys (entries_over judging.facts judging.listed)
    c.in_ok-keeping.ensures.keys c.new-printing.ensures.keys places (c.in_ok-judging.ensures.keys own) names (search rules) in
    let marks = (λ i. (c.ended-marks.ensures.marks i).items) ∙ c.in_ok-judging.ensures.marks ∙ (λ i. c.in_ok-keeping.ensures.marks i ++ marks_of (c.requires.units i)) in
    ap Some (c.new-marks.ensures ∙ (λ i. record { marks = marks i; keys = keys i }))

pub returns-clause-made : goal.returns-clause-made
returns-clause-made c =
    let events = c.args.source.1.now in
    let units = c.args.source.2.now in
    let old = c.args.keeper.now in
    let between = c.begin.new.self in
    let at = c.args.before.at in
    let facts = c.in_ok-first.first.env in
    let none : facts ≡ [] = ap (λ (o : Outcome). o.facts) c.in_ok-first.ensures in
    let begins = c.in_ok-begin.ensures.texts in
    let start = c.in_ok-keeping.keeping.meter in
    let judged = c.with_all_kept.new.keeping.meter in
    let first = c.new-printing.result.meter in
    let printed = c.printed.new.self.meter in
    let same : start ≡ c.args.meter.now = c.in_ok-keeping.ensures.meter in
    let there : first ≡ judged = c.new-printing.ensures.meter in
    let judging = held c.in_ok-judging.judging in
    let all : judging ≡ outcome_of events =
    judged-all events units c.in_ok-findings.findings.items (held c.in_ok-first.first) judging c.requires.units c.in_ok-findings.ensures c.in_ok-first.ensures c.in_ok-judging.ensures.held in
    let places = entries_over judging.facts judging.listed in
    let has : HasDraft between.entries = subst (λ (s : Stored EntryResult). HasDraft s) (sym c.in_ok-begin.ensures.entries) (has-begun old.entries at) in
    record {
      declarations = declarations-made events old.texts between.texts at facts units begins none c.requires.units c.with_all_kept.new.kept c.in_ok-judging.ensures.kept;
      blocks = blocks-made events old.texts between.texts at facts units begins none c.requires.units c.with_all_kept.new.kept c.in_ok-judging.ensures.kept;
      begins = begins-made events old.texts between.texts at facts units begins none c.requires.units c.with_all_kept.new.kept c.in_ok-judging.ensures.kept;
      entries =
          entries-drafted events judging old.entries between.entries c.printed.new.kept at all c.in_ok-begin.ensures.entries
          (c.in_ok-printed.ensures.kept
          ∙ ap (λ (l : List HeldListed). grown between.entries (map entry_result (entries_over judging.facts (map listed_at l)))) c.as_slice-listed.ensures.value);
      checked =
          let before : start.checked ≡ c.args.meter.now.checked = ap (λ (m : Meter). m.checked) same in
          let after : judged.checked ≡ printed.checked = ap (λ (m : Meter). m.checked) (sym there) ∙ ap (λ (m : Meter). m.checked) (sym c.in_ok-printed.ensures.others) in
          declarations-passed events old.texts.declarations between.texts.declarations c.with_all_kept.new.kept.declarations at facts units
          start.checked judged.checked c.args.meter.now.checked printed.checked
          (ap (λ (t : Texts). t.declarations) begins) none c.requires.units before after c.in_ok-judging.ensures.counts;
      printed =
          let before : first.printed ≡ c.args.meter.now.printed =
          ap (λ (m : Meter). m.printed) (there ∙ c.in_ok-judging.ensures.others) ∙ ap (λ (m : Meter). m.printed) same in
          entries-passed events judging old.entries between.entries c.printed.new.kept at first.printed printed.printed c.args.meter.now.printed printed.printed
          all c.in_ok-begin.ensures.entries before refl
          (subst (λ (l : List HeldListed). IsEntryPass (entries_over judging.facts (map listed_at l)) (results_in between.entries) (results_in c.printed.new.kept) first.printed printed.printed) c.as_slice-listed.ensures.value
          (c.in_ok-printed.ensures.counts has));
      compared = λ known entries texts names.
          let over : results_in between.entries ≡ map entry_result entries = ap (λ (s : Stored EntryResult). results_in s) c.in_ok-begin.ensures.entries ∙ begun-results old.entries at ∙ names in
          let most : start.compared ≤ most_compared = search rules in
          let prints : judged.compared ≤ most_compared → printed.compared ≡ compared_after judged.compared (shared_entries entries places) = λ fits.
          c.in_ok-printed.ensures.compared (subst (λ (m : Meter). m.compared ≤ most_compared) (sym there) fits) entries has over
          ∙ ap (λ (l : List HeldListed). compared_after first.compared (shared_entries entries (entries_over judging.facts (map listed_at l)))) c.as_slice-listed.ensures.value
          ∙ ap (λ (m : Meter). compared_after m.compared (shared_entries entries places)) there in
          compared-made events old.texts between.texts at facts units begins none c.requires.units c.args.meter.now.compared printed.compared start judged places known entries texts
          (ap (λ (m : Meter). m.compared) same) most c.in_ok-judging.ensures.compared (entries-are events judging all) prints;
    }

pub returns-clause-lists : goal.returns-clause-lists
returns-clause-lists c = record {
  texts = record {
    declarations = c.with_all_kept.ensures.lists.declarations ∙ c.begin.ensures.lists.texts.declarations;
    blocks = c.with_all_kept.ensures.lists.blocks ∙ c.begin.ensures.lists.texts.blocks;
    begins = c.with_all_kept.ensures.lists.begins ∙ c.begin.ensures.lists.texts.begins;
  };
  entries = c.printed.ensures.lists ∙ c.begin.ensures.lists.entries;
}

pub returns-clause-others : goal.returns-clause-others
returns-clause-others c =
    let start = c.in_ok-keeping.keeping.meter in
    let judged = c.with_all_kept.new.keeping.meter in
    let printed = c.printed.new.self.meter in
    let prints = subst (λ (m : Meter). PrintsOnly m printed) c.new-printing.ensures.meter c.in_ok-printed.ensures.others in
    expands-none c.args.meter.now start judged printed c.in_ok-keeping.ensures.meter c.in_ok-judging.ensures.others prints
