use Rattle.std.proofs.Common.{◌≡◌, ◌∙◌, ◌<◌, ◌≤◌, true, false, cond, List, ℕ, Bor, Ok, Err, map, length, ltb, ap, sym, arith}
use Rattle.std.proofs.lemmas.Bool.Decides.{nat_tests}
use Rattle.std.proofs.lemmas.List.{length-map, take_all}
use Rattle.std.proofs.lemmas.List.Folds.{list_all-map}
use Rattle.std.proofs.lemmas.List.Sums.{AllPass-from_list_all}
use Rattle.std.specs.List.{list_all}
use Rattle.idl_source.specs.names.Directory.{is_directory}
use Rattle.idl_source.specs.declared.refusal.Refusal.TheVariants.{BadName, OverLimit}
use Rattle.idl_inputs.specs.Edits.{search_list}
use Rattle.idl_inputs.proofs.search_list.directories.Goals as goal

bad : (list : List (Bor (List ℕ))) → list_all (λ bytes. is_directory bytes.now) list ≡ false → search_list (map (λ bytes. bytes.now) list) ≡ Err BadName
bad list h =
    ap (λ b. cond b (cond (ltb 256 (length (map (λ bytes. bytes.now) list))) (Err OverLimit) (Ok (map (λ bytes. bytes.now) list))) (Err BadName))
    (list_all-map is_directory (λ bytes. bytes.now) list ∙ h)

many : (list : List (Bor (List ℕ))) → list_all (λ bytes. is_directory bytes.now) list ≡ true → 256 < length list → search_list (map (λ bytes. bytes.now) list) ≡ Err OverLimit
many list h over =
    let long : ltb 256 (length (map (λ (bytes : Bor (List ℕ)). bytes.now) list)) ≡ true = grind (arith, nat_tests, length-map list (λ (bytes : Bor (List ℕ)). bytes.now)) in
    ap (λ b. cond b (cond (ltb 256 (length (map (λ bytes. bytes.now) list))) (Err OverLimit) (Ok (map (λ bytes. bytes.now) list))) (Err BadName))
    (list_all-map is_directory (λ bytes. bytes.now) list ∙ h)
    ∙ ap (λ b. cond b (Err OverLimit) (Ok (map (λ (bytes : Bor (List ℕ)). bytes.now) list))) long

good : (list : List (Bor (List ℕ))) → list_all (λ bytes. is_directory bytes.now) list ≡ true → length list ≤ 256
    → search_list (map (λ bytes. bytes.now) list) ≡ Ok (map (λ bytes. bytes.now) list)
good list h within =
    let short : ltb 256 (length (map (λ (bytes : Bor (List ℕ)). bytes.now) list)) ≡ false = grind (arith, nat_tests, length-map list (λ (bytes : Bor (List ℕ)). bytes.now)) in
    ap (λ b. cond b (cond (ltb 256 (length (map (λ bytes. bytes.now) list))) (Err OverLimit) (Ok (map (λ bytes. bytes.now) list))) (Err BadName))
    (list_all-map is_directory (λ bytes. bytes.now) list ∙ h)
    ∙ ap (λ b. cond b (Err OverLimit) (Ok (map (λ (bytes : Bor (List ℕ)). bytes.now) list))) short

pub returns-then-not-are_directories-clause-err : goal.returns-then-not-are_directories-clause-err
returns-then-not-are_directories-clause-err c = λ _. bad c.args.list.now (sym c.are_directories.ensures ∙ c.if-not-are_directories.true)

pub returns-then-list-gt-MAX_DIRECTORIES-clause-err : goal.returns-then-list-gt-MAX_DIRECTORIES-clause-err
returns-then-list-gt-MAX_DIRECTORIES-clause-err c = λ _. many c.args.list.now (sym c.are_directories.ensures ∙ c.if-not-are_directories.false) c.if-list-gt-MAX_DIRECTORIES.true

pub unwrap-requires : goal.unwrap-requires
unwrap-requires c =
    let all = AllPass-from_list_all (λ (bytes : Bor (List ℕ)). is_directory bytes.now) c.args.list.now (sym c.are_directories.ensures ∙ c.if-not-are_directories.false) in
    c.new.ensures.allowed.1 (all c.loop-bytes.bytes-index _ c.loop-bytes-test.true)

pub returns-clause-ok : goal.returns-clause-ok
returns-clause-ok c =
    let list = c.args.list.now in
    let i = c.loop-bytes.bytes-index in
    good list (sym c.are_directories.ensures ∙ c.if-not-are_directories.false) c.if-list-gt-MAX_DIRECTORIES.false
    ∙ ap Ok (ap (map (λ (bytes : Bor (List ℕ)). bytes.now)) (sym (take_all i list c.loop-bytes-test.false)) ∙ sym c.loop-bytes.invariant.taken)
