-- Reports of findings, one after another.
use Rattle.std.proofs.Common.{◌≡◌, ◌∙◌, ◌+◌, ◌<◌, ◌≤◌, ◌++◌, ◌∷◌, [], ◌||◌, ℕ, All, Bool, Contains, List, ap₂, ap, arith, cond, false, fold, get_or, if◌then◌else◌, length, map, refl, subst, sym, take, true, true≢false}
use Rattle.std.proofs.lemmas.List.{append-nil, get_or-map, map-append, take_all, take_more}
use Rattle.std.proofs.lemmas.List.Elements.{All-append, All-cons, All-head, All-nil, All-tail, Contains-append_left, filter-append}
use Rattle.std.proofs.lemmas.List.Concat.{flat_map-append}
use Rattle.std.proofs.lemmas.List.Sums.{fold-append}
use Rattle.std.proofs.lemmas.Map.Keys.{IsDistinct-push}
use Rattle.std.proofs.lemmas.Map.Made.{is_some-lookup}
use Rattle.std.proofs.lemmas.Slice.Zip.{get_or-zip, length-zip}
use Rattle.std.specs.Cmp.Lexicographic.{bytes_decides, nat_list_eq_equiv}
use Rattle.std.specs.List.{IsDistinct, filter, list_any, zip}
use Rattle.std.specs.Map.{keys_of, lookup}
use Rattle.std.specs.Option.{is_some}
use Rattle.std.specs.Str.{bytes_eq}
use Rattle.indexmap.proofs.CallerLemmas.{Contains-insert_key}
use Rattle.indexmap.specs.IndexMap.{insert_entry}
use Rattle.indexmap.specs.IndexSet.{insert_all, insert_key}
use Rattle.idl_explain.specs.declared.explanation.Explanation.{Explanation}
use Rattle.idl_source.specs.texts.Texts.{Texts}
use Rattle.idl_driver.specs.idl_sources.Related.{AreRelatedOver}
use Rattle.idl_related.specs.declared.second.Related.{Related}
use Rattle.idl_inputs.specs.Bank.{bank_of}
use Rattle.idl_driver.specs.idl_sources.Compile.{compiled_root}
use Rattle.idl_inputs.specs.Project.{Inputs}
use Rattle.idl_driver.specs.idl_sources.declared.compile.CompiledRoot.{CompiledRoot}
use Rattle.idl_finding.specs.declared.finding.Finding.{Finding}
use Rattle.idl_tool.specs.Checked.{AreReported, AreToldOf, Entry, Explained, Explains, IsTold, IsToldOf, Told, all_of, entry_in, in_order, is_of, report_in, seconds_in, with_entry}
use Rattle.idl_tool.proofs.JsonLemmas.{zip-push}

pub reported-none : (files : Texts) (before : List Entry) → AreReported files [] before before
reported-none files before = ([], All-nil Explains, refl, refl)

-- those of some findings, and then of others
pub reported-both : (files : Texts) (fs gs : List Told) (before mid after : List Entry) → AreReported files fs before mid → AreReported files gs mid after
    → AreReported files (fs ++ gs) before after
reported-both files fs gs before mid after first second =
    let es = first.0 in
    let hs = second.0 in (
      es ++ hs,
      All-append Explains es hs first.1 second.1,
      map-append (λ (e : Explained). e.0) es hs ∙ ap (λ xs. xs ++ map (λ (e : Explained). e.0) hs) first.2 ∙ ap (λ xs. fs ++ xs) second.2,
      second.3 ∙ ap (λ entries. fold with_entry entries (map (entry_in files) hs)) first.3
          ∙ sym (fold-append with_entry before (map (entry_in files) es) (map (entry_in files) hs))
          ∙ ap (fold with_entry before) (sym (map-append (entry_in files) es hs)),
    )

-- that of one finding
pub reported-one : (files : Texts) (t : Told) (e : Explanation) (before after : List Entry) → Explains (t, e) → after ≡ with_entry before (entry_in files (t, e))
    → AreReported files (t ∷ []) before after
reported-one files t e before after explains more =
    ((t, e) ∷ [], All-cons Explains (t, e) [] explains (All-nil Explains), refl, more)

-- one more
pub reported-at : {X : Type 0} (tell : X → Told) (files : Texts) (xs : List X) (i : ℕ) (x : X) (e : Explanation) (text : List ℕ) (before mid after : List Entry) → i < length xs
    → AreReported files (map tell (take i xs)) before mid → Explains (tell x, e) → x ≡ get_or xs i x → text ≡ report_in files (tell x, e)
    → after ≡ with_entry mid (text, seconds_in files (tell x).1) → AreReported files (map tell (take (i + 1) xs)) before after
reported-at tell files xs i x e text before mid after within are explains is told more =
    let next = ap (map tell) (take_more xs i x within ∙ ap (λ y. take i xs ++ y ∷ []) (sym is)) ∙ map-append tell (take i xs) (x ∷ []) in
    let one = reported-one files (tell x) e mid after explains (more ∙ ap (λ (t : List ℕ). with_entry mid (t, seconds_in files (tell x).1)) told) in
    subst (λ (ts : List Told). AreReported files ts before after) (sym next) (reported-both files (map tell (take i xs)) (tell x ∷ []) before mid after are one)

-- a report that is there stays as it is
pub entry-there : (es : List Entry) (report behind : List ℕ) → is_some (lookup (bytes_eq report) es) ≡ true → with_entry es (report, behind) ≡ es
entry-there es report behind there =
    ap (λ b. if b then es else es ++ (report, behind) ∷ []) (sym (is_some-lookup (bytes_eq report) es) ∙ there)

insert-new : (es : List Entry) (report behind : List ℕ) → list_any (bytes_eq report) (keys_of es) ≡ false → insert_entry bytes_eq es report behind ≡ es ++ (report, behind) ∷ []
insert-new [] report behind none = refl
insert-new (e ∷ es) report behind none = by (bytes_eq report e.0) (list_any (bytes_eq report) (keys_of es)) none (insert-new es report behind)
  where
    by : (b rest : Bool) → (b || rest) ≡ false → (rest ≡ false → insert_entry bytes_eq es report behind ≡ es ++ (report, behind) ∷ [])
        → (if b then (e.0, behind) ∷ es else e ∷ insert_entry bytes_eq es report behind) ≡ e ∷ (es ++ (report, behind) ∷ [])
    by true rest none more = absurd (true≢false none)
    by false rest none more = ap (λ (entries : List Entry). e ∷ entries) (more none)

-- and another one goes in behind them
pub entry-new : (es : List Entry) (report behind : List ℕ) → is_some (lookup (bytes_eq report) es) ≡ false → insert_entry bytes_eq es report behind ≡ with_entry es (report, behind)
entry-new es report behind none =
    let absent = sym (is_some-lookup (bytes_eq report) es) ∙ none in
    insert-new es report behind absent ∙ ap (λ b. if b then es else es ++ (report, behind) ∷ []) (sym absent)

-- ---- what is told of roots

-- of one root more
pub told-next : (inputs : Inputs) (roots : List (List ℕ)) (i : ℕ) (root : List ℕ) (lists : List (List Told)) (told : List Told)
    → i < length roots → root ≡ get_or roots i root → AreToldOf inputs (take i roots) lists → IsToldOf inputs root told → AreToldOf inputs (take (i + 1) roots) (lists ++ told ∷ [])
told-next inputs roots i root lists told within is are next =
    subst (λ (rs : List (List ℕ)). AreToldOf inputs rs (lists ++ told ∷ []))
    (sym (take_more roots i root within ∙ ap (λ (r : List ℕ). take i roots ++ r ∷ []) (sym is)))
    (zip-push (IsToldOf inputs) (take i roots) lists root told are next)

-- what a root compiles to is what is found at its place
pub compiled-at : (inputs : Inputs) (roots : List (List ℕ)) (compiled : List CompiledRoot) (i : ℕ) (root : List ℕ) (one : CompiledRoot)
    → compiled ≡ map (compiled_root inputs) roots → i < length roots → root ≡ get_or roots i root → one ≡ get_or compiled i one → one ≡ compiled_root inputs root
compiled-at inputs roots compiled i root one rows within is at =
    at ∙ ap (λ (rs : List CompiledRoot). get_or rs i one) rows ∙ get_or-map (compiled_root inputs) roots i root one within ∙ ap (compiled_root inputs) (sym is)

-- what is told of a root is told of what it compiles to
pub told-root : (inputs : Inputs) (root : List ℕ) (one : CompiledRoot) (related : List (List Related)) (told : List Told)
    → one ≡ compiled_root inputs root → AreRelatedOver (bank_of inputs) root one.rows.findings related → told ≡ in_order (zip one.rows.findings related) → IsToldOf inputs root told
told-root inputs root one related told same are is =
    subst (λ (r : CompiledRoot). (ps : List (List Related)) × AreRelatedOver (bank_of inputs) root r.rows.findings ps × (told ≡ in_order (zip r.rows.findings ps))) same (related, are, is)

-- all of that, and of one more
pub all-next : (lists : List (List Told)) (told : List Told) → all_of (lists ++ told ∷ []) ≡ all_of lists ++ told
all-next lists told = flat_map-append (λ (one : List Told). one) lists (told ∷ []) ∙ ap (λ (l : List Told). all_of lists ++ l) (append-nil told)

abbrev pair : {X Y : Type 0} → X → Y → X × Y
pair x y = (x, y)

-- pairs of two lists that are as long, and one more
pub pairs-next : {X Y : Type 0} (xs : List X) (ys : List Y) (i : ℕ) (x : X) (y : Y) → i < length xs → length ys ≡ length xs → x ≡ get_or xs i x → y ≡ get_or ys i y
    → take (i + 1) (zip xs ys) ≡ take i (zip xs ys) ++ (x, y) ∷ []
pairs-next xs ys i x y within same is at =
    let within-ys = subst (λ n. i < n) (sym same) within in
    take_more (zip xs ys) i (x, y) (omega (arith, length-zip xs ys, within, within-ys))
    ∙ ap (λ p. take i (zip xs ys) ++ p ∷ []) (get_or-zip xs ys i (x, y) within within-ys ∙ ap₂ pair (sym is) (sym at))

-- those of a sort among them, and one more
pub those-next : (are : Bool) (fs : List Finding) (rs : List (List Related)) (i : ℕ) (f : Finding) (r : List Related) (b : Bool) → i < length fs → length rs ≡ length fs
    → f ≡ get_or fs i f → r ≡ get_or rs i r → is_of are (f, r) ≡ b → filter (is_of are) (take (i + 1) (zip fs rs)) ≡ filter (is_of are) (take i (zip fs rs)) ++ cond b ((f, r) ∷ []) []
those-next are fs rs i f r b within same is at passes =
    ap (filter (is_of are)) (pairs-next fs rs i f r within same is at) ∙ filter-append (is_of are) (take i (zip fs rs)) ((f, r) ∷ [])
    ∙ ap (λ c. filter (is_of are) (take i (zip fs rs)) ++ cond c ((f, r) ∷ []) []) passes

-- all of them
pub pairs-all : {X Y : Type 0} (xs : List X) (ys : List Y) (i : ℕ) → length ys ≡ length xs → length xs ≤ i → take i (zip xs ys) ≡ zip xs ys
pairs-all xs ys i same past = take_all i (zip xs ys) (omega (arith, length-zip xs ys, same, past))

-- ---- what is put in once

-- the keys of reports after one more
keys-with_entry : (es : List Entry) (e : Entry) → keys_of (with_entry es e) ≡ insert_key bytes_eq (keys_of es) e.0
keys-with_entry es e = by (list_any (bytes_eq e.0) (keys_of es))
  where
    push : (es : List Entry) → keys_of (es ++ e ∷ []) ≡ keys_of es ++ e.0 ∷ []
    push [] = refl
    push (x ∷ es) = ap (λ (ks : List (List ℕ)). x.0 ∷ ks) (push es)

    by : (b : Bool) → keys_of (if b then es else es ++ e ∷ []) ≡ (if b then keys_of es else keys_of es ++ e.0 ∷ [])
    by true = refl
    by false = push es

-- and after others
keys-all : (es xs : List Entry) → keys_of (fold with_entry es xs) ≡ insert_all bytes_eq (keys_of es) (keys_of xs)
keys-all es [] = refl
keys-all es (x ∷ xs) = keys-all (with_entry es x) xs ∙ ap (λ (ks : List (List ℕ)). insert_all bytes_eq ks (keys_of xs)) (keys-with_entry es x)

-- texts that are equal by their bytes are one
one : (x y : List ℕ) → bytes_eq x y ≡ true → x ≡ y
one x y h = (bytes_decides x y).0 h

stays-in : (ks : List (List ℕ)) (k x : List ℕ) → Contains ks x → Contains (insert_key bytes_eq ks k) x
stays-in ks k x there = by (list_any (bytes_eq k) ks)
  where
    by : (b : Bool) → Contains (if b then ks else ks ++ k ∷ []) x
    by true = there
    by false = Contains-append_left ks (k ∷ []) x there

stays-in_all : (ks xs : List (List ℕ)) (x : List ℕ) → Contains ks x → Contains (insert_all bytes_eq ks xs) x
stays-in_all ks [] x there = there
stays-in_all ks (y ∷ ys) x there = stays-in_all (insert_key bytes_eq ks y) ys x (stays-in ks y x there)

-- each text that is put in is there
put-in : (ks xs : List (List ℕ)) → All (Contains (insert_all bytes_eq ks xs)) xs
put-in ks [] = All-nil (Contains ks)
put-in ks (y ∷ ys) =
    let more = insert_key bytes_eq ks y in
    All-cons (Contains (insert_all bytes_eq more ys)) y ys (stays-in_all more ys y (Contains-insert_key bytes_eq one ks y)) (put-in more ys)

-- none is there twice
insert_key-distinct : (ks : List (List ℕ)) (k : List ℕ) → IsDistinct bytes_eq ks → IsDistinct bytes_eq (insert_key bytes_eq ks k)
insert_key-distinct ks k are = by (list_any (bytes_eq k) ks) refl
  where
    by : (b : Bool) → list_any (bytes_eq k) ks ≡ b → IsDistinct bytes_eq (if b then ks else ks ++ k ∷ [])
    by true is = are
    by false is = IsDistinct-push nat_list_eq_equiv ks k are is

insert_all-distinct : (ks xs : List (List ℕ)) → IsDistinct bytes_eq ks → IsDistinct bytes_eq (insert_all bytes_eq ks xs)
insert_all-distinct ks [] are = are
insert_all-distinct ks (y ∷ ys) are = insert_all-distinct (insert_key bytes_eq ks y) ys (insert_key-distinct ks y are)

told-each : (files : Texts) (reports : List Entry) (es : List Explained) → All Explains es → All (Contains (keys_of reports)) (keys_of (map (entry_in files) es))
    → All (IsTold files reports) (map (λ e. e.0) es)
told-each files reports [] explains there = All-nil (IsTold files reports)
told-each files reports ((t, x) ∷ es) explains there =
    let rest = keys_of (map (entry_in files) es) in
    All-cons (IsTold files reports) t (map (λ (e : Explained). e.0) es)
    (x, All-head Explains (t, x) es explains, All-head (Contains (keys_of reports)) (report_in files (t, x)) rest there)
    (told-each files reports es (All-tail Explains (t, x) es explains) (All-tail (Contains (keys_of reports)) (report_in files (t, x)) rest there))

-- the keys of the reports of findings
keys-reported : (files : Texts) (es : List Explained) (reports : List Entry) → reports ≡ fold with_entry [] (map (entry_in files) es)
    → keys_of reports ≡ insert_all bytes_eq [] (keys_of (map (entry_in files) es))
keys-reported files es reports are = ap keys_of are ∙ keys-all [] (map (entry_in files) es)

-- the reports tell of each finding
pub reported-told : (files : Texts) (told : List Told) (reports : List Entry) → AreReported files told [] reports → All (IsTold files reports) told
reported-told files told reports are =
    let es = are.0 in
    let heads = keys_of (map (entry_in files) es) in
    let there = subst (λ (ks : List (List ℕ)). All (Contains ks) heads) (sym (keys-reported files es reports are.3)) (put-in [] heads) in
    subst (λ (ts : List Told). All (IsTold files reports) ts) are.2 (told-each files reports es are.1 there)

-- and no two are alike
pub reported-once : (files : Texts) (told : List Told) (reports : List Entry) → AreReported files told [] reports → IsDistinct bytes_eq (keys_of reports)
unfolding IsDistinct
reported-once files told reports are =
    subst (IsDistinct bytes_eq) (sym (keys-reported files are.0 reports are.3)) (insert_all-distinct [] (keys_of (map (entry_in files) are.0)) tt)
