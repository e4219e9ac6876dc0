use Rattle.std.proofs.Common.{◌≡◌, ◌+◌, ◌≤◌, ◌∷◌, ◌++◌, [], ◌∙◌, ℕ, List, append-nil, length, map, refl, sym, ap, subst, arith}
use Rattle.std.proofs.lemmas.List.{map-append}
use Rattle.std.proofs.lemmas.Map.Entries.{length-keys_of}
use Rattle.std.proofs.lemmas.List.Elements.{All-head, All-tail, All-push, All-nil}
use Rattle.std.specs.List.{list_any, IsDistinct}
use Rattle.std.specs.Map.{keys_of}
use Rattle.std.specs.Option.{option_eq}
use Rattle.std.specs.Str.{bytes_eq}
use Rattle.idl_sources.specs.idl_root.idl_kept.Texts.{Texts}
use Rattle.idl_memo.specs.Fresh.{stale_at}
use Rattle.idl_memo.specs.Meter.{compared_after}
use Rattle.idl_memo.specs.declared.meter.Meter.{Meter}
use Rattle.idl_prep.specs.Root.{expansion}
use Rattle.idl_store.specs.Stored.{list_at}
use Rattle.idl_sources.specs.idl_root.Results.{entry_result, fresh_declarations, fresh_entries}
use Rattle.idl_sources.specs.idl_root.idl_root_blocks.Places.{block_result, declaration_result}
use Rattle.idl_inputs.specs.Bank.{bank_of}
use Rattle.idl_project.specs.Compared.{KnownTasks, compared_in, met_among, met_at, tasks_of, with_tasks}
use Rattle.idl_project.specs.Renewed.{IsRenewedAt}
use Rattle.idl_project.specs.Tasks.{answer_eq, begin_list, block_list, blocks_at, declaration_list, declarations_at, entries_at, entry_list}
use Rattle.idl_project.specs.UpToDate.{AreKept, IsKept}
use Rattle.idl_project.specs.Work.{touched_between}
use Rattle.idl_project.specs.declared.kept_root.KeptRoot.{KeptRoot}
use Rattle.idl_project.proofs.KeptLemmas.{IsKept-at, stale_most, stale_roots, work-same}
use Rattle.idl_project.proofs.MetLemmas.{alike-known, compared-first, list_any-behind, tasks-append, tasks-none}
use Rattle.idl_project.proofs.RenewedLemmas.{begins-way, blocks-way, compared-renewed, declarations-way, entries-way, expanded-count, stays-or-drafted}
use Rattle.idl_project.proofs.RootLemmas.{list_any-before, keys_of-push}
use Rattle.idl_project.proofs.StoreLemmas.{IsPlacing, IsUnderWay, list_at-middle, placing-begins, placing-ends, uncounted, way-begins, way-ends}
use Rattle.idl_project.proofs.TouchedLemmas.{there-middle, touched-on}
use Rattle.idl_project.proofs.root_table.RootTable.all_renewed.Goals as goal

pub loop-root-init : goal.loop-root-init
loop-root-init g c =
    let before = bank_of c.args.change.now.base.now in
    let after = g.B.Bank.at c.args.change.now.bank.now in
    let names = keys_of c.args.self.now in
    let left : c.into_iter-root-iterator.result ≡ c.args.self.now = c.into_iter-root-iterator.ensures.into_iter_gives ∙ c.iter-root-items.ensures.rest ∙ c.self.view_is in
    let none : c.new-table.result ≡ [] = c.new-table.ensures in
    let names_left : keys_of c.into_iter-root-iterator.result ≡ names = ap (λ (es : List (List ℕ × KeptRoot)). keys_of es) left in
    let all : keys_of c.new-table.result ++ keys_of c.into_iter-root-iterator.result ≡ names =
    ap (λ (es : List (List ℕ × KeptRoot)). keys_of es ++ keys_of c.into_iter-root-iterator.result) none ∙ names_left in
    let expanded : c.new-meter.result.expanded ≡ 0 = ap (λ (m : Meter). m.expanded) c.new-meter.ensures in
    let checked : c.new-meter.result.checked ≡ 0 = ap (λ (m : Meter). m.checked) c.new-meter.ensures in
    let printed : c.new-meter.result.printed ≡ 0 = ap (λ (m : Meter). m.printed) c.new-meter.ensures in
    let compared : c.new-meter.result.compared ≡ 0 = ap (λ (m : Meter). m.compared) c.new-meter.ensures in
    let stale = ap (λ (ns : List (List ℕ)). stale_roots before after ns) names_left in
    let many = ap (λ (es : List (List ℕ × KeptRoot)). length es) left in
    let old : KnownTasks = tasks_of before names in
    let known : with_tasks old (tasks_of after (keys_of c.new-table.result)) ≡ old =
    ap (λ (es : List (List ℕ × KeptRoot)). with_tasks old (tasks_of after (keys_of es))) none ∙ tasks-none old after in
    let texts = c.requires.held.texts in
    let declarations = way-begins declaration_result (declarations_at before) (declarations_at after) fresh_declarations c.fresh_tasks.ensures.declarations_none names
    c.args.keeper.now.texts.declarations c.new-meter.result.checked (ap (λ (t : Texts). t.declarations) texts) checked in
    let blocks = way-begins block_result (blocks_at before) (blocks_at after) uncounted (λ known. refl) names c.args.keeper.now.texts.blocks 0 (ap (λ (t : Texts). t.blocks) texts) refl in
    let begins = placing-begins (begin_list before) (begin_list after) names c.args.keeper.now.texts.begins (ap (λ (t : Texts). t.begins) texts) in
    let entries = way-begins entry_result (entries_at before) (entries_at after) fresh_entries c.fresh_tasks.ensures.entries_none names
    c.args.keeper.now.entries c.new-meter.result.printed c.requires.held.entries printed in
    let whole : List (List ℕ) × List (List ℕ) = ([], names) in
    let parts : List (List ℕ) × List (List ℕ) = (keys_of c.new-table.result, keys_of c.into_iter-root-iterator.result) in
    let begun : whole ≡ parts = λ i. (keys_of (sym none i), sym names_left i) in
    record {
      roots = all;
      distinct = subst (λ (ns : List (List ℕ)). IsDistinct bytes_eq ns) (sym all) c.requires.held.formed.roots_once;
      kept = subst (AreKept after) (sym none) (All-nil (λ (e : List ℕ × KeptRoot). IsKept after e));
      kept_left = subst (AreKept before) (sym left) c.requires.held.kept;
      expanded = omega (arith, expanded, stale);
      compared = λ i. compared_after (compared i) (compared_in (met_among (known i) after (names_left i)));
      touched = λ i. c.new-touched.ensures i ++ touched_between before names after (names_left i);
      fits = omega (arith, compared);
      room = omega (arith, expanded, many);
      lists = record { texts = record { declarations = refl; blocks = refl; begins = refl }; entries = refl };
      declarations = subst (λ (p : List (List ℕ) × List (List ℕ)). IsUnderWay declaration_result (declarations_at before) (declarations_at after) fresh_declarations p.0 p.1 c.args.keeper.now.texts.declarations c.new-meter.result.checked) begun declarations;
      blocks = subst (λ (p : List (List ℕ) × List (List ℕ)). IsUnderWay block_result (blocks_at before) (blocks_at after) uncounted p.0 p.1 c.args.keeper.now.texts.blocks 0) begun blocks;
      begins = subst (λ (p : List (List ℕ) × List (List ℕ)). IsPlacing (begin_list before) (begin_list after) p.0 p.1 c.args.keeper.now.texts.begins) begun begins;
      entries = subst (λ (p : List (List ℕ) × List (List ℕ)). IsUnderWay entry_result (entries_at before) (entries_at after) fresh_entries p.0 p.1 c.args.keeper.now.entries c.new-meter.result.printed) begun entries;
    }

pub add-requires : goal.add-requires
add-requires g c =
    let left : c.loop-root.root-iterator ≡ (c.in-Some.root.now, c.in-Some.kept.now) ∷ c.next.new.self = c.in-Some.ensures.steps in
    ap (λ (name : List ℕ). list_any (bytes_eq name) (keys_of c.loop-root.table)) c.copied.ensures
    ∙ list_any-before (keys_of c.loop-root.table) c.in-Some.root.now (keys_of c.next.new.self)
    (subst (λ (es : List (List ℕ × KeptRoot)). IsDistinct bytes_eq (keys_of c.loop-root.table ++ keys_of es)) left c.loop-root.invariant.distinct)

pub renewed-requires-clause-kept : goal.renewed-requires-clause-kept
renewed-requires-clause-kept g c =
    let before = bank_of c.args.change.now.base.now in
    let left : c.loop-root.root-iterator ≡ (c.in-Some.root.now, c.in-Some.kept.now) ∷ c.next.new.self = c.in-Some.ensures.steps in
    let one : IsKept before (c.in-Some.root.now, c.in-Some.kept.now) =
    All-head (λ (e : List ℕ × KeptRoot). IsKept before e) (c.in-Some.root.now, c.in-Some.kept.now) c.next.new.self (subst (AreKept before) left c.loop-root.invariant.kept_left) in
    IsKept-at before c.in-Some.root.now c.in-Some.kept.now.result.value.text c.in-Some.kept.now (sym one.text) one

-- the list of a root that isn't done
own-list : {R : Type 0} (list : List ℕ → List R) (lists : List (List R)) (names done : List (List ℕ)) (root text : List ℕ) (left : List (List ℕ)) (at : ℕ)
    → lists ≡ map list names → names ≡ done ++ root ∷ left → at ≡ length done → text ≡ root → list_at lists at ≡ list text
own-list {R} list lists names done root text left at are all place same =
    ap (λ (ls : List (List R)). list_at ls at) (are ∙ ap (λ (ns : List (List ℕ)). map list ns) all) ∙ list_at-middle list done root left at place ∙ ap list (sym same)

pub renewed-requires-clause-lists : goal.renewed-requires-clause-lists
renewed-requires-clause-lists g c =
    let before = bank_of c.args.change.now.base.now in
    let root = c.in-Some.root.now in
    let rest : List (List ℕ × KeptRoot) = c.next.new.self in
    let left : c.loop-root.root-iterator ≡ (root, c.in-Some.kept.now) ∷ rest = c.in-Some.ensures.steps in
    let one : IsKept before (root, c.in-Some.kept.now) = All-head (λ (e : List ℕ × KeptRoot). IsKept before e) (root, c.in-Some.kept.now) rest (subst (AreKept before) left c.loop-root.invariant.kept_left) in
    let text : List ℕ = c.in-Some.kept.now.result.value.text in
    let done = keys_of c.loop-root.table in
    let names = done ++ keys_of c.loop-root.root-iterator in
    let all : names ≡ done ++ root ∷ keys_of rest = ap (λ (es : List (List ℕ × KeptRoot)). done ++ keys_of es) left in
    let place : c.len.result ≡ length done = c.len.ensures ∙ sym (length-keys_of c.loop-root.table) in
    let texts = c.loop-root.keeper.texts in
    let inv = c.loop-root.invariant in
    λ i. record {
      declarations = own-list (declaration_list before) texts.declarations.lists names done root text (keys_of rest) c.len.result inv.declarations.placing.lists all place one.text i;
      blocks = own-list (block_list before) texts.blocks.lists names done root text (keys_of rest) c.len.result inv.blocks.placing.lists all place one.text i;
      begins = own-list (begin_list before) texts.begins.lists names done root text (keys_of rest) c.len.result inv.begins.lists all place one.text i;
      entries = own-list (entry_list before) c.loop-root.keeper.entries.lists names done root text (keys_of rest) c.len.result inv.entries.placing.lists all place one.text i;
    }

pub loop-root-preserved : goal.loop-root-preserved
loop-root-preserved g c =
    let before = bank_of c.args.change.now.base.now in
    let after = g.B.Bank.at c.args.change.now.bank.now in
    let names = keys_of c.args.self.now in
    let table = c.loop-root.table in
    let done = keys_of table in
    let root = c.in-Some.root.now in
    let entry : List ℕ × KeptRoot = (root, c.in-Some.kept.now) in
    let rest : List (List ℕ × KeptRoot) = c.next.new.self in
    let behind = keys_of rest in
    let left : c.loop-root.root-iterator ≡ entry ∷ rest = c.in-Some.ensures.steps in
    let next : KeptRoot = c.in_ok-next.next in
    let P = λ (e : List ℕ × KeptRoot). IsKept before e in
    let Q = λ (e : List ℕ × KeptRoot). IsKept after e in
    let inv = c.loop-root.invariant in
    let lefts = subst (AreKept before) left inv.kept_left in
    let one : IsKept before entry = All-head P entry rest lefts in
    let text : entry.1.result.value.text ≡ root = one.text in
    let pushed : c.add.new.self ≡ table ++ (root, next) ∷ [] = c.in_ok-add.ensures.ok ∙ ap (λ (name : List ℕ). table ++ (name, next) ∷ []) c.copied.ensures in
    let parts : keys_of c.add.new.self ++ behind ≡ done ++ keys_of c.loop-root.root-iterator =
    ap (λ (held : List (List ℕ × KeptRoot)). keys_of held ++ behind) pushed ∙ keys_of-push table root next behind
    ∙ ap (λ (es : List (List ℕ × KeptRoot)). done ++ keys_of es) (sym left) in
    let more : keys_of c.add.new.self ≡ done ++ root ∷ [] = ap (λ (held : List (List ℕ × KeptRoot)). keys_of held) pushed ∙ map-append (λ (e : List ℕ × KeptRoot). e.0) table ((root, next) ∷ []) in
    let whole : done ++ root ∷ behind ≡ names = ap (λ (es : List (List ℕ × KeptRoot)). done ++ keys_of es) (sym left) ∙ inv.roots in
    let distinct = subst (λ (es : List (List ℕ × KeptRoot)). IsDistinct bytes_eq (done ++ keys_of es)) left inv.distinct in
    let was = c.loop-root.keeper in
    let now = c.renewed.new.keeper in
    let m = c.loop-root.meter in
    let n = c.renewed.new.meter in
    let place : c.len.result ≡ length done = c.len.ensures ∙ sym (length-keys_of table) in
    let renewed : IsRenewedAt before after c.len.result root was now m n =
    subst (λ (name : List ℕ). IsRenewedAt before after c.len.result name was now m n) text c.in_ok-next.ensures.renewed in
    let tasks = stays-or-drafted before after c.len.result root was now m n renewed in
    let declarations_way = subst (λ (es : List (List ℕ × KeptRoot)). IsUnderWay declaration_result (declarations_at before) (declarations_at after) fresh_declarations done (keys_of es) was.texts.declarations m.checked) left inv.declarations in
    let blocks_way = subst (λ (es : List (List ℕ × KeptRoot)). IsUnderWay block_result (blocks_at before) (blocks_at after) uncounted done (keys_of es) was.texts.blocks 0) left inv.blocks in
    let begins_way = subst (λ (es : List (List ℕ × KeptRoot)). IsPlacing (begin_list before) (begin_list after) done (keys_of es) was.texts.begins) left inv.begins in
    let entries_way = subst (λ (es : List (List ℕ × KeptRoot)). IsUnderWay entry_result (entries_at before) (entries_at after) fresh_entries done (keys_of es) was.entries m.printed) left inv.entries in
    let declarations = declarations-way before after done root behind c.len.result place was now m n tasks c.fresh_tasks.ensures.declarations_aside c.fresh_tasks.ensures.declarations_split declarations_way in
    let blocks = blocks-way before after done root behind c.len.result place was now m n tasks blocks_way in
    let begins = begins-way before after done root behind c.len.result place was now m n tasks begins_way in
    let entries = entries-way before after done root behind c.len.result place was now m n tasks c.fresh_tasks.ensures.entries_aside c.fresh_tasks.ensures.entries_split entries_way in
    let stale = stale_at bytes_eq (option_eq answer_eq) expansion before after root in
    let fresh : n.expanded ≡ m.expanded + stale = expanded-count before after c.len.result root was now m n renewed in
    let most = stale_most before after root in
    let counted = subst (λ (es : List (List ℕ × KeptRoot)). m.expanded + stale_roots before after (keys_of es) ≡ stale_roots before after names) left inv.expanded in
    let within = subst (λ (es : List (List ℕ × KeptRoot)). m.expanded + length es ≤ length c.args.self.now) left inv.room in
    let old : KnownTasks = tasks_of before names in
    let known : KnownTasks = with_tasks old (tasks_of after done) in
    let own = alike-known before after root done behind (list_any-before done root behind distinct) (list_any-behind done root behind distinct) in
    let costs : n.compared ≡ compared_after m.compared (compared_in (met_at known after root)) =
    subst (λ (ns : List (List ℕ)). n.compared ≡ compared_after m.compared (compared_in (met_at (with_tasks (tasks_of before ns) (tasks_of after done)) after root))) whole
    (compared-renewed c.comparing.ensures.entries_none c.comparing.ensures.entries_more c.comparing.ensures.same c.comparing.ensures.known before after done root behind c.len.result was now m n own
    declarations_way blocks_way entries_way renewed) in
    let step = compared-first known after root behind in
    let later : compared_in (met_among (with_tasks known (tasks_of after (root ∷ []))) after behind) ≡ compared_in (met_among (with_tasks old (tasks_of after (keys_of c.add.new.self))) after behind) =
    ap (λ (k : KnownTasks). compared_in (met_among k after behind)) (tasks-append old after done (root ∷ []) ∙ ap (λ (ns : List (List ℕ)). with_tasks old (tasks_of after ns)) (sym more)) in
    let compared = subst (λ (es : List (List ℕ × KeptRoot)). compared_after m.compared (compared_in (met_among known after (keys_of es))) ≡ compared_after 0 (compared_in (met_among old after names))) left inv.compared in
    record {
      roots = parts ∙ inv.roots;
      distinct = subst (λ (ns : List (List ℕ)). IsDistinct bytes_eq ns) (sym parts) inv.distinct;
      kept = subst (AreKept after) (sym pushed)
          (All-push Q table (root, next) inv.kept (IsKept-at after c.in-Some.kept.now.result.value.text root next text c.in_ok-next.ensures.kept));
      kept_left = All-tail P entry rest lefts;
      expanded = omega (arith, fresh, counted);
      compared = omega (arith, costs, step, later, compared);
      touched =
          touched-on before names after c.len.result root was now m n behind c.loop-root.touched c.note_touched.new.names renewed
          (ap (λ (ns : List (List ℕ)). list_any (bytes_eq root) ns) (sym whole) ∙ there-middle done root behind) c.in_ok-note_touched.ensures.same c.in_ok-note_touched.ensures.more
          ∙ ap (λ (es : List (List ℕ × KeptRoot)). c.loop-root.touched ++ touched_between before names after (keys_of es)) (sym left)
          ∙ inv.touched;
      fits = omega (arith, costs);
      room = omega (arith, fresh, most, within);
      lists = record {
        texts = record {
          declarations = c.in_ok-next.ensures.lists.texts.declarations ∙ inv.lists.texts.declarations;
          blocks = c.in_ok-next.ensures.lists.texts.blocks ∙ inv.lists.texts.blocks;
          begins = c.in_ok-next.ensures.lists.texts.begins ∙ inv.lists.texts.begins;
        };
        entries = c.in_ok-next.ensures.lists.entries ∙ inv.lists.entries;
      };
      declarations = subst (λ (ns : List (List ℕ)). IsUnderWay declaration_result (declarations_at before) (declarations_at after) fresh_declarations ns behind now.texts.declarations n.checked) (sym more) declarations;
      blocks = subst (λ (ns : List (List ℕ)). IsUnderWay block_result (blocks_at before) (blocks_at after) uncounted ns behind now.texts.blocks 0) (sym more) blocks;
      begins = subst (λ (ns : List (List ℕ)). IsPlacing (begin_list before) (begin_list after) ns behind now.texts.begins) (sym more) begins;
      entries = subst (λ (ns : List (List ℕ)). IsUnderWay entry_result (entries_at before) (entries_at after) fresh_entries ns behind now.entries n.printed) (sym more) entries;
    }

pub returns-clause-renewed : goal.returns-clause-renewed
returns-clause-renewed g c =
    let before = bank_of c.args.change.now.base.now in
    let after = g.B.Bank.at c.args.change.now.bank.now in
    let names = keys_of c.args.self.now in
    let m = c.loop-root.meter in
    let inv = c.loop-root.invariant in
    let done = keys_of c.loop-root.table in
    let left = keys_of c.loop-root.root-iterator in
    let texts = c.loop-root.keeper.texts in
    let known : KnownTasks = with_tasks (tasks_of before names) (tasks_of after done) in
    let none : c.loop-root.root-iterator ≡ [] = c.in-None.ensures.steps.0 in
    let none_left : left ≡ [] = ap (λ (es : List (List ℕ × KeptRoot)). keys_of es) none in
    let counted = subst (λ (es : List (List ℕ × KeptRoot)). m.expanded + stale_roots before after (keys_of es) ≡ stale_roots before after names) none inv.expanded in
    let compares = subst (λ (es : List (List ℕ × KeptRoot)). compared_after m.compared (compared_in (met_among known after (keys_of es))) ≡ compared_after 0 (compared_in (met_among (tasks_of before names) after names))) none inv.compared in
    let expanded : m.expanded ≡ stale_roots before after names = omega (arith, counted) in
    let compared : m.compared ≡ compared_after 0 (compared_in (met_among (tasks_of before names) after names)) = omega (arith, inv.fits, compares) in
    let declarations = way-ends declaration_result (declarations_at before) (declarations_at after) fresh_declarations names done left texts.declarations m.checked none_left inv.roots inv.declarations in
    let blocks = way-ends block_result (blocks_at before) (blocks_at after) uncounted names done left texts.blocks 0 none_left inv.roots inv.blocks in
    let begins = placing-ends (begin_list before) (begin_list after) names done left texts.begins none_left inv.roots inv.begins in
    let entries = way-ends entry_result (entries_at before) (entries_at after) fresh_entries names done left c.loop-root.keeper.entries m.printed none_left inv.roots inv.entries in
    record {
      roots = sym (append-nil done) ∙ ap (λ (ns : List (List ℕ)). done ++ ns) (sym none_left) ∙ inv.roots;
      kept = inv.kept;
      texts = λ i. record { declarations = declarations.0 i; blocks = blocks.0 i; begins = begins i };
      entries = entries.0;
      touched =
          sym (append-nil c.loop-root.touched)
          ∙ ap (λ (ns : List (List ℕ)). c.loop-root.touched ++ touched_between before names after ns) (sym none_left)
          ∙ inv.touched;
      work =
          c.counted.ensures
          ∙ work-same before after names m.expanded m.checked m.printed m.compared (c.one_bank.ensures.same_places before after names c.requires.held.formed.roots_once) expanded compared declarations.1 entries.1;
    }
