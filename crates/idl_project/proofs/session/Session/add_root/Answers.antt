use Rattle.std.proofs.Common.{◌≡◌, Bool, ◌∙◌, ◌∷◌, ◌++◌, [], cond, length, List, ℕ, not, Result, Ok, Err, true, false, refl, sym, ap, subst}
use Rattle.std.proofs.lemmas.List.{map-append}
use Rattle.std.proofs.lemmas.Map.Entries.{length-keys_of}
use Rattle.std.proofs.lemmas.Map.Keys.{IsDistinct-push}
use Rattle.std.specs.Cmp.Lexicographic.{nat_list_eq_equiv}
use Rattle.std.specs.List.{list_any}
use Rattle.std.specs.Map.{keys_of}
use Rattle.std.specs.Option.{option_eq}
use Rattle.std.specs.Prelude.{nat_le}
use Rattle.std.specs.Str.{bytes_eq}
use Rattle.idl_event.specs.contracts.asked.key.RootAnswerPartialEq.TheImpl.{ghosts}
use Rattle.idl_event.specs.declared.asked.key.RootAnswer.{RootAnswer}
use Rattle.idl_memo.specs.Fresh.{fresh_among, is_alike, places_over}
use Rattle.idl_memo.specs.Meter.{compared_after}
use Rattle.idl_prep.specs.Root.{expansion}
use Rattle.idl_source.specs.Limits.{most_roots}
use Rattle.idl_source.specs.names.Name.{is_name}
use Rattle.idl_source.specs.declared.refusal.Refusal.{Refusal}
use Rattle.idl_source.specs.declared.refusal.Refusal.TheVariants.{BadName, OverLimit, RootThere}
use Rattle.idl_sources.specs.idl_root.idl_kept.Texts.{Texts}
use Rattle.idl_store.specs.Stored.{with_draft}
use Rattle.idl_sources.specs.idl_root.Results.{entry_result, fresh_declarations, fresh_entries}
use Rattle.idl_sources.specs.idl_root.idl_root_blocks.Places.{declaration_result}
use Rattle.idl_inputs.specs.Bank.{bank_of}
use Rattle.idl_project.specs.Compared.{compared_in, met_between}
use Rattle.idl_project.specs.Tasks.{alike_root, begin_list, block_list, declaration_list, declarations_among, declarations_at, entries_among, entries_at, entry_list}
use Rattle.idl_inputs.specs.Edits.{AddRoot, after, result_map, roots_with}
use Rattle.idl_inputs.specs.Project.{Project, is_root, with_roots}
use Rattle.idl_project.specs.UpToDate.{IsUpToDate, State}
use Rattle.idl_project.specs.Work.{touched_between, touched_of, work_of}
use Rattle.idl_project.specs.declared.kept_root.KeptRoot.{KeptRoot}
use Rattle.idl_inputs.proofs.FormLemmas.{after-formed}
use Rattle.idl_project.proofs.AddedLemmas.{compared-added}
use Rattle.idl_project.proofs.KeptLemmas.{answer_eq-derived, keys_asked-kept, work-roots}
use Rattle.idl_project.proofs.RootLemmas.{IsUpToDate-left, IsUpToDate-push, list-more}
use Rattle.idl_project.proofs.StoreLemmas.{fresh-more}
use Rattle.idl_project.proofs.TouchedLemmas.{touched-added}
use Rattle.idl_project.proofs.session.Session.add_root.Goals as goal

-- a root that isn't refused
added : (project : Project) (name root : List ℕ) (roots : List (List ℕ)) → root ≡ name → is_name name ≡ true → is_root project root ≡ false
    → nat_le most_roots (length project.roots) ≡ false → roots ≡ project.roots ++ root ∷ []
    → roots_with project name ≡ Ok roots
added project name root roots same allowed new room made =
    let full = nat_le most_roots (length project.roots) in
    let more : Result (List (List ℕ)) Refusal = Ok (project.roots ++ name ∷ []) in
    ap (λ b. cond (not b) (Err BadName) (cond (is_root project name) (Err RootThere) (cond full (Err OverLimit) more))) allowed
    ∙ ap (λ b. cond b (Err RootThere) (cond full (Err OverLimit) more)) (ap (is_root project) (sym same) ∙ new)
    ∙ ap (λ b. cond b (Err OverLimit) more) room
    ∙ ap (λ (n : List ℕ). Ok (project.roots ++ n ∷ [])) (sym same)
    ∙ ap Ok (sym made)

-- what was reserved stays, and where nothing more came of it all stays
pub invariant_of-self : goal.invariant_of-self
invariant_of-self c = subst (λ (roots : List (List ℕ × KeptRoot)). IsUpToDate c.self.inside.bank roots c.self.inside.keeper) (sym c.reserve_one.ensures) c.self.invariant

pub invariant_of-self-in_err-add_anew : goal.invariant_of-self-in_err-add_anew
invariant_of-self-in_err-add_anew c =
    let roots = c.in_err-add_anew.ensures.err.0 ∙ c.reserve_one.ensures in
    subst (λ (roots : List (List ℕ × KeptRoot)). IsUpToDate c.self.inside.bank roots c.add_anew.new.keeper) (sym roots)
    (IsUpToDate-left c.self.inside.bank c.self.inside.roots c.self.inside.keeper c.add_anew.new.keeper c.self.invariant c.in_err-add_anew.ensures.err.1)

pub invariant_of-self-2 : goal.invariant_of-self-2
invariant_of-self-2 c =
    let inputs = c.self.inside.bank in
    let bank = bank_of inputs in
    let held = c.self.inside.roots in
    let root = c.in-Some.root in
    let project : Project = record { inputs = inputs; roots = keys_of held } in
    let new : Project = record { inputs = inputs; roots = keys_of held ++ root ∷ [] } in
    let room : nat_le most_roots (length (keys_of held)) ≡ false = ap (nat_le most_roots) (length-keys_of held) ∙ sym c.is_full.ensures ∙ c.if-is_full.false in
    let is : after project (AddRoot c.args.name.now) ≡ Ok new =
    ap (λ (r : Result (List (List ℕ)) Refusal). result_map (with_roots project) r)
    (added project c.args.name.now root new.roots c.in-Some.ensures.same (c.in-Some.ensures.allowed.0 refl) (sym c.contains.ensures ∙ c.if-contains.false) room refl) in
    let one = c.in_ok-add_anew.ensures.added in
    let grown : c.add_anew.new.self ≡ held ++ (root, one.kept) ∷ [] = one.last ∙ ap (λ (rs : List (List ℕ × KeptRoot)). rs ++ (root, one.kept) ∷ []) c.reserve_one.ensures in
    let place : length c.reserve_one.new.self ≡ length (keys_of held) = ap (λ (rs : List (List ℕ × KeptRoot)). length rs) c.reserve_one.ensures ∙ sym (length-keys_of held) in
    let tasks = c.in_ok-add_anew.ensures.tasks in
    let names = keys_of held in
    let old = c.self.inside.keeper in
    let made = c.add_anew.new.keeper in
    let was = c.self.invariant.texts in
    let texts = c.commit.ensures.texts ∙ (λ i. record {
      declarations = list-more (declaration_list bank) names root old.texts.declarations made.texts.declarations (ap (λ (t : Texts). t.declarations) was)
          (tasks.declarations ∙ ap (λ n. with_draft old.texts.declarations n (declaration_list bank root)) place) i;
      blocks = list-more (block_list bank) names root old.texts.blocks made.texts.blocks (ap (λ (t : Texts). t.blocks) was) (tasks.blocks ∙ ap (λ n. with_draft old.texts.blocks n (block_list bank root)) place) i;
      begins = list-more (begin_list bank) names root old.texts.begins made.texts.begins (ap (λ (t : Texts). t.begins) was) (tasks.begins ∙ ap (λ n. with_draft old.texts.begins n (begin_list bank root)) place) i;
    }) in
    let entries = c.commit.ensures.entries
    ∙ list-more (entry_list bank) names root old.entries made.entries c.self.invariant.entries (tasks.entries ∙ ap (λ n. with_draft old.entries n (entry_list bank root)) place) in
    subst (λ (more : List (List ℕ × KeptRoot)). IsUpToDate inputs more c.commit.new.self) (sym grown)
    (IsUpToDate-push inputs held c.commit.new.self root one.kept c.self.invariant.kept one.is_kept (after-formed project new (AddRoot c.args.name.now) c.self.invariant.formed is) texts entries)

pub returns : goal.returns
returns c =
    let held = c.self.inside.roots in
    let root = c.in-Some.root in
    let bank = bank_of c.self.inside.bank in
    let more : List (List ℕ × KeptRoot) = c.add_anew.new.self in
    let project : Project = record { inputs = c.self.inside.bank; roots = keys_of held } in
    let after_add : Project = record { inputs = c.self.inside.bank; roots = keys_of more } in
    let new : list_any (bytes_eq root) (keys_of held) ≡ false = sym c.contains.ensures ∙ c.if-contains.false in
    let made = c.in_ok-add_anew.ensures.added in
    let grown : more ≡ held ++ (root, made.kept) ∷ [] = made.last ∙ ap (λ (rs : List (List ℕ × KeptRoot)). rs ++ (root, made.kept) ∷ []) c.reserve_one.ensures in
    let names : keys_of more ≡ keys_of held ++ root ∷ [] =
    ap (λ (es : List (List ℕ × KeptRoot)). keys_of es) grown ∙ map-append (λ (e : List ℕ × KeptRoot). e.0) held ((root, made.kept) ∷ []) in
    let one = c.one_bank.ensures.one_more bank (keys_of held) root (IsDistinct-push nat_list_eq_equiv (keys_of held) root c.self.invariant.formed.roots_once new) in
    let fresh = subst (λ (ns : List (List ℕ)). fresh_among bytes_eq (option_eq ghosts.eq) expansion (places_over bank (keys_of held)) (places_over bank ns) ≡ 1) (sym names) one in
    let tasks = c.in_ok-add_anew.ensures.tasks in
    let old = c.self.inside.keeper in
    let was = c.self.invariant.texts in
    let meter = c.add_anew.new.meter in
    let checked : meter.checked ≡ fresh_declarations (declarations_among bank (keys_of held)) (declarations_among bank (keys_of more)) =
    fresh-more declaration_result (declarations_at bank) fresh_declarations c.fresh_tasks.ensures.declarations_aside (keys_of held) root old.texts.declarations 0 meter.checked (ap (λ (t : Texts). t.declarations) was) refl tasks.checked.count
    ∙ ap (λ (ns : List (List ℕ)). fresh_declarations (declarations_among bank (keys_of held)) (declarations_among bank ns)) (sym names) in
    let printed : meter.printed ≡ fresh_entries (entries_among bank (keys_of held)) (entries_among bank (keys_of more)) =
    fresh-more entry_result (entries_at bank) fresh_entries c.fresh_tasks.ensures.entries_aside (keys_of held) root old.entries 0 meter.printed c.self.invariant.entries refl tasks.printed.count
    ∙ ap (λ (ns : List (List ℕ)). fresh_entries (entries_among bank (keys_of held)) (entries_among bank ns)) (sym names) in
    let itself : (name : List ℕ) → alike_root (name, bank) (name, bank) ≡ true = λ name.
    subst (λ (e : RootAnswer → RootAnswer → Bool). is_alike bytes_eq (option_eq e) expansion (name, bank) (name, bank) ≡ true) answer_eq-derived
    ((c.freshness.ensures.class (name, bank) (name, bank)).1 (refl, refl)) in
    let asked = c.keys_asked.ensures ∙ ap (compared_after 0) (sym (keys_asked-kept bank held c.self.invariant.kept)) in
    let compared : meter.compared ≡ compared_after 0 (compared_in (met_between bank (keys_of held) bank (keys_of more))) =
    compared-added c.comparing.ensures.entries_none c.comparing.ensures.entries_more c.comparing.ensures.same bank itself (keys_of held) root old c.keys_asked.result meter.compared was c.self.invariant.entries new asked tasks.compared
    ∙ ap (λ (ns : List (List ℕ)). compared_after 0 (compared_in (met_between bank (keys_of held) bank ns))) (sym names) in
    let room : nat_le most_roots (length (keys_of held)) ≡ false = ap (nat_le most_roots) (length-keys_of held) ∙ sym c.is_full.ensures ∙ c.if-is_full.false in
    record {
      project =
          ap (λ (state : State). after state.project (AddRoot c.args.name.now)) (sym c.self.view_is)
          ∙ ap (λ (r : Result (List (List ℕ)) Refusal). result_map (with_roots project) r)
          (added project c.args.name.now root (keys_of more) c.in-Some.ensures.same (c.in-Some.ensures.allowed.0 refl) new room names);
      kept = refl;
      told =
          c.counted-self-inside.ensures
          ∙ (λ i. record { expanded = c.in_ok-add_anew.ensures.count i; checked = meter.checked; printed = meter.printed; compared = meter.compared })
          ∙ work-roots bank (keys_of held) (keys_of more) 1 meter.checked meter.printed meter.compared fresh checked printed compared
          ∙ ap (λ (state : State). work_of state.project after_add) c.self.view_is;
      touched =
          c.in_ok-push.ensures.items
          ∙ (λ i. c.new-touched.ensures i ++ c.copied.ensures i ∷ [])
          ∙ sym (ap (λ (ns : List (List ℕ)). touched_between bank (keys_of held) bank ns) names ∙ touched-added bank itself (keys_of held) root new)
          ∙ ap (λ (state : State). touched_of state.project after_add) c.self.view_is;
    }
