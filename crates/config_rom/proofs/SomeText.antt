-- Where no block of a ROM has a fault, there is the list of its blocks, and there is its text.
use Rattle.std.proofs.Common.{◌≡◌, ℕ, ◌+◌, inl, inr, List, [], ◌∷◌, length, map, drop, take, refl, sym, ap, subst}
use Rattle.std.specs.List.{AllByRecursion}
use Rattle.std.proofs.lemmas.Bool.{cases_lt, cases_eq}
use Rattle.std.proofs.lemmas.List.Elements.{All-from_recursion}
use Rattle.topology_map.specs.Crc.{IsCrc}
use Rattle.topology_map.proofs.Lemmas.{some_crc}
use Rattle.config_rom.specs.declared.crc.CrcState.{CrcState}
use Rattle.config_rom.specs.declared.crc.CrcState.TheVariants.{Good, Bad, Past}
use Rattle.config_rom.specs.declared.block.Block.{Block}
use Rattle.config_rom.specs.declared.block.BlockKind.{BlockKind}
use Rattle.config_rom.specs.Layout.{length_at, crc_at}
use Rattle.config_rom.specs.Rom.{Parts, rom_quads}
use Rattle.config_rom.specs.Crc.{IsCrcState, IsInfoCrc}
use Rattle.config_rom.specs.Block.{place_of, in_order, IsBlockOf}
use Rattle.config_rom.specs.Text.{text_of}
use Rattle.config_rom.specs.SomeText.{RomsHaveTexts}
use Rattle.config_rom.proofs.SomeFault.{reached_set}

-- ---- CRCs

record HasState (quads : List ℕ) (kept : ℕ) : Type 0 where
  state : CrcState
  is : IsCrcState quads kept state

some_state : (quads : List ℕ) (kept : ℕ) → HasState quads kept
some_state quads kept =
    let c = some_crc quads in
    elim (cases_eq kept c.crc) [
      | inl same ↦ record { state = Good; is = subst (λ n. IsCrc quads n) (sym same) c.is }
      | inr other ↦ record { state = Bad kept c.crc; is = (refl, c.is, other) }
    ]

record HasInfoCrc (v : Parts) : Type 0 where
  state : CrcState
  is : IsInfoCrc v state

some_info : (v : Parts) → HasInfoCrc v
some_info v =
    let c = some_crc (take v.crc_length (drop 1 (rom_quads v))) in
    elim (cases_lt (length (drop 1 (rom_quads v))) v.crc_length) [
      | inl past ↦ record { state = Past; is = past }
      | inr inside ↦ elim (cases_eq v.crc c.crc) [
        | inl same ↦ record { state = Good; is = (inside, subst (λ n. IsCrc (take v.crc_length (drop 1 (rom_quads v))) n) (sym same) c.is) }
        | inr other ↦ record { state = Bad v.crc c.crc; is = (inside, (refl, c.is, other)) }
      ]
    ]

-- ---- blocks

record HasBlocks (quads : List ℕ) (places : List (BlockKind × ℕ)) : Type 0 where
  list : List Block
  listed : map place_of list ≡ places
  told : AllByRecursion (IsBlockOf quads) list

some_blocks : (quads : List ℕ) (places : List (BlockKind × ℕ)) → HasBlocks quads places
some_blocks quads [] = record { list = []; listed = refl; told = tt }
some_blocks quads (p ∷ places) =
    let rest = some_blocks quads places in
    let s = some_state (take (length_at quads p.1) (drop (p.1 + 1) quads)) (crc_at quads p.1) in
    let block : Block = record { kind = p.0; at = p.1; len = length_at quads p.1; crc = s.state } in
    record {
      list = block ∷ rest.list;
      listed = ap (λ ps. p ∷ ps) rest.listed;
      told = (record { len_is = refl; crc_is = s.is }, rest.told);
    }

-- ---- of a ROM

pub some_text : RomsHaveTexts
some_text v good =
    let quads = rom_quads v in
    let reached = reached_set quads (1 + v.info_len) in
    let blocks = some_blocks quads (in_order reached.set (length quads)) in
    let info = some_info v in
    record {
      list = blocks.list;
      are = record {
        set = reached.set;
        set_is = reached.set_is;
        listed = blocks.listed;
        told = All-from_recursion _ _ blocks.told;
        faultless = good;
      };
      text = text_of v info.state blocks.list;
      is_text = record { state = info.state; state_is = info.is; text_is = refl };
    }
