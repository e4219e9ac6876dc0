use Rattle.idl_memo.specs.Query.{and_then}
use Rattle.std.proofs.Common.{◌≡◌, ◌-◌, [], suc, length, ◌+◌, map, refl, ap, sym, ◌∙◌, arith}
use Rattle.std.proofs.lemmas.List.{length-append}
use Rattle.std.proofs.lemmas.Result.{IfOk-weaker}
use Rattle.idl_lex.specs.tokens.Tokens.{lines_of}
use Rattle.idl_event.specs.declared.told.event.Event.TheVariants.{Entered, Left}
use Rattle.idl_event.specs.declared.told.event.Item.TheVariants.{Kept, TooDeep}
use Rattle.idl_fault.specs.declared.place.Place.{Place}
use Rattle.idl_text.specs.Line.{read}
use Rattle.idl_text.specs.Tree.{part}
use Rattle.idl_prep.specs.Pass.{coming, entered, to_come}
use Rattle.idl_prep.specs.Root.{enter}
use Rattle.idl_prep.specs.State.{onward, telling}
use Rattle.idl_prep.proofs.WalkLaws.FileLemmas.{ended-over, onward-enter, onward-too_deep, to_come-file, to_come-no_line}
use Rattle.idl_prep.proofs.WalkLaws.WalkLemmas.{onward-then}
use Rattle.idl_prep.proofs.walk.file.+files.Goals as goal

pub enter_file-returns-then-room-eq0 : goal.enter_file-returns-then-room-eq0
enter_file-returns-then-room-eq0 g t c =
    let i = c.in-Some.inclusion in
    let bank = g.B.Bank.at c.args.bank.now in
    IfOk-weaker c.tell.result _ _ (λ _ told.
    onward-too_deep bank c.args.room i.place i.name i.file.now c.args.root.now c.tell.new.self c.if-room-eq0.true
    (told ∙ ap (λ (place : Place). telling (TooDeep place) c.args.root.now) c.into_place.ensures)
    ∙ ap (λ found. onward bank (entered (enter c.args.room) found) c.args.root.now) (sym c.in-Some.is)) c.tell.ensures

pub enter_file-walk_file-requires : goal.enter_file-walk_file-requires
enter_file-walk_file-requires g t c κs within = (omega (arith, c.if-room-eq0.false), within)

pub enter_file-returns : goal.enter_file-returns
enter_file-returns g t c =
    let i = c.in-Some.inclusion in
    let bank = g.B.Bank.at c.args.bank.now in
    let room = c.args.room in
    let more : room ≡ suc (room - 1) = omega (arith, c.if-room-eq0.false) in
    IfOk-weaker c.tell-3.result _ _ (λ _ left.
    onward-enter bank room (room - 1) i.place i.name i.file.now c.args.root.now c.tell-2.new.self c.walk_file.new.root c.tell-3.new.self more
    (c.in_ok-tell.ensures ∙ ap (λ f. telling (Kept (Entered f)) c.args.root.now) c.in_ok-clone.ensures.cases) c.in_ok-walk_file.ensures
    (left ∙ ap (λ f. telling (Kept (Left f)) c.walk_file.new.root) c.in_ok-clone-2.ensures.cases)
    ∙ ap (λ found. onward bank (entered (enter room) found) c.args.root.now) (sym c.in-Some.is)) c.tell-3.ensures

pub walk_file-lines-init : goal.walk_file-lines-init
walk_file-lines-init g t c =
    let bank = g.B.Bank.at c.args.site.now.bank.now in
    let next = enter c.args.room in
    let file = c.args.site.now.file.now in
    let way = c.args.root.now in
    ap (λ gs. to_come bank next file gs (map read (lines_of c.lines-left.result)) way) c.new-groups.ensures
    ∙ ap (λ ts. to_come bank next file [] (map read (lines_of ts)) way) c.lines-left.ensures
    ∙ to_come-file bank next file c.args.file.now way

pub walk_file-returns-then-is_over : goal.walk_file-returns-then-is_over
walk_file-returns-then-is_over g t c =
    let bank = g.B.Bank.at c.args.site.now.bank.now in
    ended-over bank (coming (enter c.args.room) c.args.site.now.file.now c.lines.groups (part (map read (lines_of c.lines.left)))) c.lines.root (c.if-is_over.ensures.0 refl)
    ∙ c.lines.invariant

pub walk_file-enter_file-requires : goal.walk_file-enter_file-requires
walk_file-enter_file-requires g t c κs within = (omega arith, within)

pub walk_file-lines-smaller : goal.walk_file-lines-smaller
walk_file-lines-smaller g t c =
    let line = c.first_line-line.result.0 in
    let rest = c.first_line-line.result.1 in
    let all : length c.lines.left ≡ length line + length rest = ap length c.first_line-line.ensures.all ∙ length-append line rest in
    omega (arith, c.first_line-line.ensures.some, all, c.in_ok-left-2.ensures.shorter)

pub walk_file-lines-smaller-in-Some : goal.walk_file-lines-smaller-in-Some
walk_file-lines-smaller-in-Some g t c =
    let text = c.in-Some.text in
    let behind = c.in-Some.behind in
    let all : length c.lines.left ≡ length text + length behind = ap length c.in-Some.ensures.all ∙ length-append text behind in
    omega (arith, c.in-Some.ensures.some, all, c.in_ok-left.ensures.shorter)

pub walk_file-lines-preserved : goal.walk_file-lines-preserved
walk_file-lines-preserved g t c =
    let bank = g.B.Bank.at c.args.site.now.bank.now in
    let next = enter c.args.room in
    let file = c.args.site.now.file.now in
    let lines = map read (lines_of c.first_line-line.result.1) in
    let found = c.in_ok-inclusion.inclusion in
    let after = coming next file c.walk_line.new.groups (part lines) in
    c.in_ok-left-2.ensures.to_come bank next
    ∙ onward-then bank (entered next found) after (λ s. and_then (entered next found s) after) c.walk_line.new.root c.enter_file.new.root c.in_ok-enter_file.ensures refl
    ∙ c.in_ok-inclusion.ensures next lines
    ∙ ap (λ ls. to_come bank next file c.lines.groups (map read ls) c.lines.root) (sym c.first_line-line.ensures.lines)
    ∙ c.lines.invariant

pub walk_file-lines-preserved-in-Some : goal.walk_file-lines-preserved-in-Some
walk_file-lines-preserved-in-Some g t c =
    let bank = g.B.Bank.at c.args.site.now.bank.now in
    let next = enter c.args.room in
    let file = c.args.site.now.file.now in
    let rest = map read (lines_of c.in-Some.behind) in
    c.in_ok-left.ensures.to_come bank next
    ∙ c.in_ok-walk_texts.ensures next rest
    ∙ ap (λ ls. to_come bank next file c.lines.groups ls c.lines.root) (sym c.in-Some.ensures.lines)
    ∙ c.lines.invariant

pub walk_file-returns : goal.walk_file-returns
walk_file-returns g t c =
    let bank = g.B.Bank.at c.args.site.now.bank.now in
    let next = enter c.args.room in
    IfOk-weaker c.end_file.result _ _ (λ _ closed.
    closed next bank
    ∙ sym (to_come-no_line bank next c.args.site.now.file.now c.lines.groups c.lines.left c.lines.root (c.lines-test.ensures.0 refl))
    ∙ c.lines.invariant) c.end_file.ensures
