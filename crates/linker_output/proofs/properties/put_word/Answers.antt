use Rattle.linker_output.proofs.Imports.{ap, append_assoc, arith, bytes_of, drop, length, take, ◌++◌, ◌+◌, ◌<◌, ◌∙◌}
use Rattle.linker_output.proofs.properties.put_word.Goals as goal
use Rattle.linker_output.proofs.properties.put_word.Goals.{then-note-ge8+then-at-note, else-note-ge8, else-note-ge8-via-then-note-ge8+else-at-note, else-note-ge8-via-else-note-ge8}

pub returns-clause-written : goal.returns-clause-written
unfolding bytes_of
returns-clause-written c =
    elim c.if-note-ge8.branch [
      | then-note-ge8+then-at-note w ↦ record {
        put = λ room. w.note-is ∙ w.overwrite.ensures
            ∙ append_assoc (take c.args.at c.args.note.now) w.to_le_bytes.result (drop (c.args.at + length w.to_le_bytes.result) c.args.note.now)
            ∙ ap (λ bs. take c.args.at c.args.note.now ++ (bs ++ drop (c.args.at + length bs) c.args.note.now)) w.to_le_bytes.ensures;
      }
      | else-note-ge8 w ↦
          let short : length c.args.note.now < c.args.at + 8 =
          elim w.else-note-ge8.branch [
            | else-note-ge8-via-then-note-ge8+else-at-note v ↦ (let h = v.if-at-note.false in omega arith)
            | else-note-ge8-via-else-note-ge8 v ↦ (let h = v.if-note-ge8.false in omega arith)
          ] in record { put = λ room. absurd (omega arith) }
    ]
