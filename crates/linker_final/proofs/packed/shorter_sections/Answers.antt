use Rattle.linker_final.proofs.PackedBytes.{addresses, alignments, deleted_bytes, deleted_items, instructions, kept_bytes, padding, places, sections}
use Rattle.linker_final.proofs.packed.shorter_sections.Goals as goal

pub returns : goal.returns
returns c =
    record {
      kept_bytes = kept_bytes;
      padding = padding;
      deleted_bytes = deleted_bytes;
      deleted_items = deleted_items;
      addresses = addresses;
      places = places;
      instructions = instructions;
      alignments = alignments;
      section_starts = sections;
    }
