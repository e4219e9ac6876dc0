-- What an entry comes to, and what it asks.
use Rattle.std.proofs.Common.{◌≡◌, ◌∙◌, ℕ, Bool, true, List, [], ◌∷◌, ◌++◌, Option, None, Some, if◌then◌else◌, refl, subst, sym, ap, flat_map}
use Rattle.std.specs.Option.{is_some, unwrap_or}
use Rattle.std.proofs.lemmas.List.{append-nil}
use Rattle.idl_memo.specs.Query.{Done, asked, noted_all, outcome, run}
use Rattle.idl_memo.proofs.QueryLaws.{asked-and_then, outcome-and_then}
use Rattle.idl_fault.specs.declared.code.Code.{Code}
use Rattle.idl_repo.proofs.ToldLemmas.{ids-row}
use Rattle.idl_repo.proofs.WriteLemmas.{asked-by-written, written-over}
use Rattle.idl_repo.specs.Entry.{IsPushed, closing_fault, declared_entry, entry, entry_in, no_entry, pushed_entry, told_entry}
use Rattle.idl_repo.specs.Pieces.{asked_of, ids_in, text_over, written}
use Rattle.idl_repo.specs.Referred.{referred}
use Rattle.idl_repo.specs.Row.{row_pieces}
use Rattle.idl_repo.specs.declared.entry.Entry.{Entry}
use Rattle.idl_repo.specs.declared.entry.Pushed.{Pushed}
use Rattle.idl_env.specs.Facts.{entity_in, entity_key}
use Rattle.idl_env.specs.keys.Key.{key_eq}
use Rattle.idl_env.specs.declared.keys.key.Key.{Key}
use Rattle.idl_env.specs.declared.answering.answer.Answer.{Answer}
use Rattle.idl_entity.specs.declared.entity.Entity.{Entity as ScopeEntity}

-- of what is declared so
pub declared-outcome : (e : ScopeEntity) (bank : Key → Option Answer) → outcome (declared_entry e) bank ≡ told_entry e (text_over bank (row_pieces e))
declared-outcome e bank = outcome-and_then (written [] (row_pieces e)) (λ text. Done (told_entry e text)) bank ∙ ap (told_entry e) (written-over bank [] (row_pieces e))

pub declared-asked : (e : ScopeEntity) (bank : Key → Option Answer) → asked (declared_entry e) bank ≡ ids_in bank (row_pieces e)
declared-asked e bank = asked-and_then (written [] (row_pieces e)) (λ text. Done (told_entry e text)) bank ∙ append-nil (asked (written [] (row_pieces e)) bank) ∙ asked-by-written bank [] (row_pieces e)

pub declared-ids : (e : ScopeEntity) (bank : Key → Option Answer) → asked (declared_entry e) bank ≡ flat_map (asked_of bank) (e.path ∷ referred e.kind e)
declared-ids e bank = declared-asked e bank ∙ ids-row e bank

-- of the name at a path
pub entry-declared : (path : List (List ℕ)) (bank : Key → Option Answer) (e : ScopeEntity) → entity_in (bank (entity_key path)) ≡ Some e → outcome (entry path) bank ≡ told_entry e (text_over bank (row_pieces e))
unfolding entry
entry-declared path bank e is = ap (λ there. outcome (entry_in there) bank) is ∙ declared-outcome e bank

pub entry-unknown : (path : List (List ℕ)) (bank : Key → Option Answer) → entity_in (bank (entity_key path)) ≡ None → outcome (entry path) bank ≡ no_entry
unfolding entry
entry-unknown path bank is = ap (λ there. outcome (entry_in there) bank) is

pub entry-asked : (path : List (List ℕ)) (bank : Key → Option Answer) (e : ScopeEntity) → entity_in (bank (entity_key path)) ≡ Some e → asked (entry path) bank ≡ entity_key path ∷ flat_map (asked_of bank) (e.path ∷ referred e.kind e)
unfolding entry
entry-asked path bank e is = ap (λ keys. entity_key path ∷ keys) (ap (λ there. asked (entry_in there) bank) is ∙ declared-ids e bank)

abbrev pub told_row : Option Code → Pushed
told_row fault = record { has_row = true; fault = fault }

-- a row is written as its entry's query runs, once it is answered what is declared there
pub entry-pushed : {start text : List ℕ} (answered : Option ScopeEntity) (bank : Key → Option Answer) (e there : ScopeEntity) (fault : Option Code) → answered ≡ Some e → there ≡ e → text ≡ start ++ text_over bank (row_pieces there) → fault ≡ closing_fault e → IsPushed (outcome (entry_in answered) bank) (told_row fault) start text
entry-pushed {start} {text} answered bank e there fault is same h fault_is =
    let told : told_entry e (text_over bank (row_pieces e)) ≡ outcome (entry_in answered) bank = sym (ap (λ a. outcome (entry_in a) bank) is ∙ declared-outcome e bank) in
    let row : text ≡ start ++ text_over bank (row_pieces e) = h ∙ ap (λ (x : ScopeEntity). start ++ text_over bank (row_pieces x)) same in
    subst (λ x. IsPushed x (told_row fault) start text) told (record { row = row; has_row = refl; fault = fault_is })

pub entry-noted : {after : List (Key × Option Answer)} (before : List (Key × Option Answer)) (answered : Option ScopeEntity) (bank : Key → Option Answer) (e there : ScopeEntity) → answered ≡ Some e → there ≡ e → after ≡ noted_all key_eq bank before (ids_in bank (row_pieces there)) → after ≡ (run key_eq (entry_in answered) bank before).1
entry-noted before answered bank e there is same h =
    h
    ∙ ap (λ (x : ScopeEntity). noted_all key_eq bank before (ids_in bank (row_pieces x))) same
    ∙ ap (noted_all key_eq bank before) (sym (declared-asked e bank))
    ∙ sym (ap (λ a. noted_all key_eq bank before (asked (entry_in a) bank)) is)

-- what is told of a row that alone was written
row-pushed : (row : Option (List ℕ)) (has : Bool) (text : List ℕ) → has ≡ is_some row → text ≡ unwrap_or row [] → (if has then Some text else None) ≡ row
row-pushed None has text told is = ap (λ b. if b then Some text else None) told
row-pushed (Some own) has text told is = ap (λ b. if b then Some text else None) told ∙ ap Some is

abbrev row_entry : Option Code → Option (List ℕ) → Entry
row_entry fault row = record { row = row; fault = fault }

pub entry-told : (e : Entry) (pushed : Pushed) (old new : List ℕ) → old ≡ [] → IsPushed e pushed old new → pushed_entry pushed new ≡ e
entry-told e pushed old new empty is =
    ap (row_entry pushed.fault) (row-pushed e.row pushed.has_row new is.has_row (is.row ∙ ap (λ o. o ++ unwrap_or e.row []) empty))
    ∙ ap (λ fault. row_entry fault e.row) is.fault
