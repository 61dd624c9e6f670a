-- Records as values of the code (01, What a zone holds). Assumes nothing.
use Rattle.std.specs.Prelude.{◌≡◌, List, [], ◌∷◌, ℕ, length}
use Rattle.std.proofs.Common.{sym, ◌∙◌, arith}
use Rattle.spec.specs.Bytes.{to_be, splice, Field, field, widths_of}
use Rattle.spec.specs.Layout.{Rec, mk_rec, record_fields, record_bytes}
use Rattle.spec.specs.Lists.{total}
use Rattle.spec.specs.Params.{record_table, record_widths, spare_len}
use Rattle.law_basic.specs.Fields.{length_record, written_is, one_more, nothing_more}
use Rattle.law_basic.specs.Splice.{splice_all}
use Rattle.disk_records.specs.declared.Record.{Record}

-- the record that a value of the code stands for
abbrev pub rec_val : Record → Rec
rec_val r = mk_rec r.address.0 r.stamp.0 r.stripe

-- the three fields written one after the other
pub record_written : (l l₁ l₂ l₃ : List ℕ) (q : Rec) → length l ≡ spare_len → l₁ ≡ splice l 0 (to_be 8 q.address) → l₂ ≡ splice l₁ 8 (to_be 8 q.stamp)
    → l₃ ≡ splice l₂ 16 (to_be 4 q.stripe) → l₃ ≡ record_bytes q
unfolding record_bytes record_fields record_table record_widths spare_len widths_of total
record_written l l₁ l₂ l₃ q n e₁ e₂ e₃ =
    let f₂ : Field = field 8 q.stamp in
    let f₃ : Field = field 4 q.stripe in
    sym (nothing_more l₃ 0 spare_len)
    ∙ one_more l₂ l₃ 0 16 4 q.stripe [] e₃
    ∙ one_more l₁ l₂ 0 8 8 q.stamp (f₃ ∷ []) e₂
    ∙ one_more l l₁ 0 0 8 q.address (f₂ ∷ f₃ ∷ []) e₁
    ∙ written_is l 0 0 (record_fields q) (omega arith)
    ∙ splice_all l (record_bytes q) (length_record q ∙ sym n)
