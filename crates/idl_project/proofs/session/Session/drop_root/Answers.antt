use Rattle.std.proofs.Common.{◌≡◌, ◌∙◌, Bool, true, cond, not, All, Contains, List, [], ℕ, Result, Ok, Err, Some, map, refl, sym, ap, subst}
use Rattle.std.proofs.lemmas.List.Elements.{All-weaker}
use Rattle.std.proofs.lemmas.Map.Views.{list_any-from_Contains}
use Rattle.std.specs.Cmp.Lexicographic.{nat_list_eq_equiv}
use Rattle.std.specs.List.{list_any, position}
use Rattle.std.specs.Map.{keys_of, remove_entry}
use Rattle.std.specs.Option.{option_eq}
use Rattle.std.specs.Set.{remove_key}
use Rattle.std.specs.Str.{bytes_eq}
use Rattle.indexmap.proofs.CallerLemmas.{keys-shift_remove_entry}
use Rattle.idl_event.specs.declared.asked.key.RootAnswer.{RootAnswer}
use Rattle.idl_sources.specs.idl_root.idl_kept.Texts.{Texts}
use Rattle.idl_memo.specs.Fresh.{is_alike}
use Rattle.idl_memo.specs.Meter.{compared_after}
use Rattle.idl_prep.specs.Root.{expansion}
use Rattle.idl_source.specs.names.Name.{is_name}
use Rattle.idl_source.specs.declared.refusal.Refusal.{Refusal}
use Rattle.idl_source.specs.declared.refusal.Refusal.TheVariants.{BadName, NoSuchRoot}
use Rattle.idl_store.specs.Stored.{Stored, removed}
use Rattle.idl_sources.specs.idl_root.Results.{entry_result, fresh_declarations, fresh_entries}
use Rattle.idl_sources.specs.idl_root.idl_root_blocks.Places.{declaration_result}
use Rattle.idl_inputs.specs.Bank.{bank_of}
use Rattle.idl_project.specs.Compared.{compared_in, met_between, tasks_of}
use Rattle.idl_inputs.specs.Edits.{DropRoot, after, result_map, roots_without}
use Rattle.idl_inputs.specs.Project.{Project, is_root, with_roots}
use Rattle.idl_project.specs.Tasks.{alike_root, begin_list, block_list, declaration_list, declarations_at, entries_at, entry_list, lists_for}
use Rattle.idl_project.specs.UpToDate.{AreKept, State, keys_asked, project_held}
use Rattle.idl_project.specs.declared.kept_root.KeptRoot.{KeptRoot}
use Rattle.idl_project.specs.Work.{touched_of, work_of}
use Rattle.idl_inputs.proofs.FormLemmas.{after-formed}
use Rattle.idl_project.proofs.KeptLemmas.{answer_eq-derived, keys_asked-kept, work-roots}
use Rattle.idl_project.proofs.MetLemmas.{all-alike, compared-stay}
use Rattle.idl_project.proofs.RootLemmas.{AreKept-remove, remaining-there}
use Rattle.idl_project.proofs.StoreLemmas.{fresh-fewer, lists-removed}
use Rattle.idl_project.proofs.TouchedLemmas.{touched-none}
use Rattle.idl_project.proofs.session.Session.drop_root.Goals as goal

dropped : (project : Project) (name root : List ℕ) (roots : List (List ℕ)) → root ≡ name → is_name name ≡ true → is_root project root ≡ true → remove_key (bytes_eq root) project.roots ≡ roots
    → roots_without project name ≡ Ok roots
dropped project name root roots same allowed there left =
    ap (λ b. cond (not b) (Err BadName) (cond (is_root project name) (Ok (remove_key (bytes_eq name) project.roots)) (Err NoSuchRoot))) allowed
    ∙ ap (λ b. cond b (Ok (remove_key (bytes_eq name) project.roots)) (Err NoSuchRoot)) (ap (is_root project) (sym same) ∙ there)
    ∙ ap (λ (n : List ℕ). Ok (remove_key (bytes_eq n) project.roots)) (sym same)
    ∙ ap Ok left

-- lists of which one goes
one-less : {R : Type 0} (list : List ℕ → List R) (names left : List (List ℕ)) (root : List ℕ) (at : ℕ) (old : Stored R) → position (bytes_eq root) names ≡ Some at → remove_key (bytes_eq root) names ≡ left
    → old ≡ lists_for list names → removed old at ≡ lists_for list left
one-less {R} list names left root at old is fewer are =
    ap (λ (s : Stored R). removed s at) are
    ∙ (λ i. record { lists = (sym (lists-removed list (bytes_eq root) names at is) ∙ ap (λ (ns : List (List ℕ)). map list ns) fewer) i; drafts = [] })

pub invariant_of-self : goal.invariant_of-self
invariant_of-self c =
    let inputs = c.self.inside.bank in
    let bank = bank_of inputs in
    let held = c.self.inside.roots in
    let root = c.in-Some.root in
    let left : List (List ℕ × KeptRoot) = c.remove-2.new.self in
    let project : Project = record { inputs = inputs; roots = keys_of held } in
    let fewer : remove_key (bytes_eq root) (keys_of held) ≡ keys_of left =
    sym (keys-shift_remove_entry (bytes_eq root) held) ∙ ap (λ (es : List (List ℕ × KeptRoot)). keys_of es) (sym c.remove-2.ensures.left) in
    let is : after project (DropRoot c.args.name.now) ≡ Ok (project_held inputs left) =
    ap (λ (r : Result (List (List ℕ)) Refusal). result_map (with_roots project) r)
    (dropped project c.args.name.now root (keys_of left) c.in-Some.ensures.same (c.in-Some.ensures.allowed.0 refl) (sym c.in-Some-place_of.ensures.found) fewer) in
    let at = c.in-Some-place_of.at in
    let place = sym c.in-Some-place_of.ensures.index in
    let texts = c.self.invariant.texts in
    let old = c.self.inside.keeper in
    record {
      formed = after-formed project (project_held inputs left) (DropRoot c.args.name.now) c.self.invariant.formed is;
      kept = subst (AreKept bank) (sym c.remove-2.ensures.left) (AreKept-remove bank held (bytes_eq root) c.self.invariant.kept);
      texts = c.remove.ensures.texts ∙ (λ i. record {
        declarations = one-less (declaration_list bank) (keys_of held) (keys_of left) root at old.texts.declarations place fewer (ap (λ (t : Texts). t.declarations) texts) i;
        blocks = one-less (block_list bank) (keys_of held) (keys_of left) root at old.texts.blocks place fewer (ap (λ (t : Texts). t.blocks) texts) i;
        begins = one-less (begin_list bank) (keys_of held) (keys_of left) root at old.texts.begins place fewer (ap (λ (t : Texts). t.begins) texts) i;
      });
      entries = c.remove.ensures.entries ∙ one-less (entry_list bank) (keys_of held) (keys_of left) root at old.entries place fewer c.self.invariant.entries;
    }

pub returns : goal.returns
returns c =
    let held = c.self.inside.roots in
    let root = c.in-Some.root in
    let bank = bank_of c.self.inside.bank in
    let left : List (List ℕ × KeptRoot) = c.remove-2.new.self in
    let fewer : left ≡ remove_entry (bytes_eq root) held = c.remove-2.ensures.left in
    let project : Project = record { inputs = c.self.inside.bank; roots = keys_of held } in
    let after_drop : Project = record { inputs = c.self.inside.bank; roots = keys_of left } in
    let there = subst (λ (es : List (List ℕ × KeptRoot)). All (Contains (keys_of held)) (keys_of es)) (sym fewer) (remaining-there held (bytes_eq root)) in
    let names : keys_of left ≡ remove_key (bytes_eq root) (keys_of held) = ap (λ (es : List (List ℕ × KeptRoot)). keys_of es) fewer ∙ keys-shift_remove_entry (bytes_eq root) held in
    let kept = subst (AreKept bank) (sym fewer) (AreKept-remove bank held (bytes_eq root) c.self.invariant.kept) in
    let itself : (name : List ℕ) → alike_root (name, bank) (name, bank) ≡ true = λ name.
    subst (λ (e : RootAnswer → RootAnswer → Bool). is_alike bytes_eq (option_eq e) expansion (name, bank) (name, bank) ≡ true) answer_eq-derived
    ((c.freshness.ensures.class (name, bank) (name, bank)).1 (refl, refl)) in
    let stayed = All-weaker (Contains (keys_of held)) (λ name. list_any (bytes_eq name) (keys_of held) ≡ true) (λ name h. list_any-from_Contains nat_list_eq_equiv name (keys_of held) h) (keys_of left) there in
    let known = all-alike bank itself (keys_of held) (keys_of left) stayed in
    let met : keys_asked left ≡ compared_in (met_between bank (keys_of held) bank (keys_of left)) =
    sym (compared-stay bank itself (keys_of left) (tasks_of bank (keys_of held)) known ∙ keys_asked-kept bank left kept) in
    record {
      project = ap (λ (state : State). after state.project (DropRoot c.args.name.now)) (sym c.self.view_is)
          ∙ ap (λ (r : Result (List (List ℕ)) Refusal). result_map (with_roots project) r)
          (dropped project c.args.name.now root (keys_of left) c.in-Some.ensures.same (c.in-Some.ensures.allowed.0 refl) (sym c.in-Some-place_of.ensures.found)
          (sym (keys-shift_remove_entry (bytes_eq root) held) ∙ ap (λ (es : List (List ℕ × KeptRoot)). keys_of es) (sym fewer)));
      kept = refl;
      told =
          work-roots bank (keys_of held) (keys_of left) 0 0 0 c.keys_asked.result
          (c.one_bank.ensures.fewer bank (keys_of held) (keys_of left) there)
          (fresh-fewer declaration_result (declarations_at bank) fresh_declarations c.fresh_tasks.ensures.declarations_aside c.fresh_tasks.ensures.declarations_none (bytes_eq root) (keys_of held) (keys_of left) names)
          (fresh-fewer entry_result (entries_at bank) fresh_entries c.fresh_tasks.ensures.entries_aside c.fresh_tasks.ensures.entries_none (bytes_eq root) (keys_of held) (keys_of left) names)
          (c.keys_asked.ensures ∙ ap (compared_after 0) met)
          ∙ ap (λ (state : State). work_of state.project after_drop) c.self.view_is;
      touched =
          c.new-2.ensures
          ∙ sym (touched-none bank (keys_of held) bank (keys_of left) itself stayed)
          ∙ ap (λ (state : State). touched_of state.project after_drop) c.self.view_is;
    }
