-- It has no list yet; and what is discarded leaves what was there.
use Rattle.std.proofs.Common.{◌≡◌, ◌∙◌, ℕ, [], List, length, map, ap, refl, sym}
use Rattle.std.proofs.lemmas.List.{length-map}
use Rattle.std.proofs.lemmas.Map.Entries.{length-keys_of}
use Rattle.std.specs.Map.{keys_of}
use Rattle.idl_sources.specs.idl_root.idl_kept.Texts.{Texts}
use Rattle.idl_store.specs.Stored.{Stored, list_at}
use Rattle.idl_sources.specs.idl_root.Results.{EntryResult}
use Rattle.idl_inputs.specs.Bank.{bank_of}
use Rattle.idl_project.specs.Tasks.{begin_list, block_list, declaration_list, entry_list}
use Rattle.idl_project.proofs.RootLemmas.{IsKeeperLeft-discarded}
use Rattle.idl_project.proofs.StoreLemmas.{list_at-end}
use Rattle.idl_project.proofs.root_table.RootTable.add_anew.Goals as goal

-- behind the lists of all these names there is none
behind : {R : Type 0} (list : List ℕ → List R) (names : List (List ℕ)) (at : ℕ) → at ≡ length names → list_at (map list names) at ≡ []
behind list names at is = list_at-end (map list names) at (is ∙ sym (length-map names list))

pub anew-requires-clause-none : goal.anew-requires-clause-none
anew-requires-clause-none c =
    let bank = bank_of c.args.bank.now in
    let names = keys_of c.args.self.now in
    let place : c.len.result ≡ length names = c.len.ensures ∙ sym (length-keys_of c.args.self.now) in
    let texts = c.requires.texts in λ i. record {
      declarations = (ap (λ (t : Texts). list_at t.declarations.lists c.len.result) texts ∙ behind (declaration_list bank) names c.len.result place) i;
      blocks = (ap (λ (t : Texts). list_at t.blocks.lists c.len.result) texts ∙ behind (block_list bank) names c.len.result place) i;
      begins = (ap (λ (t : Texts). list_at t.begins.lists c.len.result) texts ∙ behind (begin_list bank) names c.len.result place) i;
      entries = (ap (λ (s : Stored EntryResult). list_at s.lists c.len.result) c.requires.entries ∙ behind (entry_list bank) names c.len.result place) i;
    }

pub returns-in-Err-clause-err : goal.returns-in-Err-clause-err
returns-in-Err-clause-err c = (
  refl,
  IsKeeperLeft-discarded (bank_of c.args.bank.now) (keys_of c.args.self.now) c.args.keeper.now c.anew.new.keeper c.discard.new.self
      c.requires.texts c.requires.entries c.anew.ensures.lists c.discard.ensures.texts c.discard.ensures.entries,
)
