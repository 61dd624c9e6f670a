-- Where a declaration says `unfolding evaluated`, every definition that a history needs computes. Assumes nothing.
-- Written by tools/witness.py.
use Prim.Native.Nat.{ℕ}
use lib.Count.{ones, ones_in}
use Rattle.spec.specs.Answers.{kind, values, is_refused, is_refused_as, stamp_told, is_cut_of, finished}
use Rattle.spec.specs.Bytes.{be_from, be_of, to_be, le_of, to_le, part, splice, xors, parity, xor_all, bytes_of, widths_of, field_at, read_field}
use Rattle.spec.specs.Calls.{ninth, ruled, first_refusal, decided, cut_memory, limited, outcome}
use Rattle.spec.specs.Closing.{padded, close_checks, close_plan, close_verdict, empty_checks, empty_plan, empty_verdict}
use Rattle.spec.specs.Demands.{are_bytes, said_block, said_at}
use Rattle.spec.specs.Drives.{no_chunk, no_zone, stored, zone_at, pointer_at, chunk_at, chunk_of, zone_of, drive_of, zones_of, view_of, put_zone, reset_zone}
use Rattle.spec.specs.Drives.{set_zone, store_view_of, pointer_byte, pointer_of, set_pointer, store_disk, store_all, is_good, good_zones, good_count, few_good}
use Rattle.spec.specs.Drives.{above_narrow, list_ok, empty_zones, empty_count, no_seg, seg_with, same_seg, zone_on, new_seg, zones_in, sealed_in, data_stored}
use Rattle.spec.specs.Drives.{blocks_of, spares_of, record_in, record_at, footers_of, zero_spare, header_stores, footer_stores, reset_stores}
use Rattle.spec.specs.Engine.{store_count, lent_block, verdict, lent_ok_of, call_on, call_disk, lent_disk, lent_memory, lent_all, left_by, call_bytes}
use Rattle.spec.specs.Examples.{empty_lent, runs, fresh, block_of}
use Rattle.spec.specs.Faults.{pointer_faults, same_chunk, header_fault, own_fault, bad_name, name_clash, serial_twice, serial_fault, outside, twice}
use Rattle.spec.specs.Faults.{stripe_fault, bad_rec, stored_bad, decoded_bad, address_fault, footers_stored, same_blocks_of, footer_fault_in, footer_fault}
use Rattle.spec.specs.Faults.{clashes, segment_fault, segment_faults, image_checks}
use Rattle.spec.specs.History.{call_of, restart_of, in_order_of, swapped, before, happens, only_if, orderly, restart_in, world_after, acknowledge, forget}
use Rattle.spec.specs.History.{sent_by, acked_by, ends_run, sent_after, untrusted_after, marked, step, empty_disk, began, names_all, allowed, seen_by, seen_at}
use Rattle.spec.specs.Host.{part_at, part_len}
use Rattle.spec.specs.Landing.{slot_of, ready, waiting, completes, seals, flight_rec, misplaced, overfull, entry_faults, land_faults, held_cand, held_by_of}
use Rattle.spec.specs.Landing.{held, landed_cand, landed_cands, pointed, land_checks, seal_stores, writes_in, land_store, land_plan, land_verdict}
use Rattle.spec.specs.Layout.{parity_drive, data_drive, data_position, is_data, parity_position, data_drives, group, in_group_of, group_offsets, compact_entry}
use Rattle.spec.specs.Layout.{header_version, header_table, header_widths, header_len, header_fields, header_block, header_serial, header_copied, header_zone}
use Rattle.spec.specs.Layout.{header_zones, record_fields, record_bytes, record_of_of, footer_block, footer_record}
use Rattle.spec.specs.Lists.{up_from, below, all, any, is_member_of, cons_if, keep, tally, is_nil, suc_unless, index_of, flat, total, greatest, least}
use Rattle.spec.specs.Lists.{insert_once, rising, first_or, same_list, pad_to, pieces, zipped, powers, only, is_in}
use Rattle.spec.specs.Memory.{slot_count, slots, cell, idle_state, zero_state, state_sections, section_len, section_at, state_len, numbers_at, section_of}
use Rattle.spec.specs.Memory.{number_of, state_numbers, section_bytes, state_bytes, state_of, stripe_in, filled_in_of, landed_in, is_write, entry_in_of, entries_in}
use Rattle.spec.specs.Memory.{offset_in, is_free, is_full, is_filling, in_flight, free_slot, filling_slot, has_filling, holds_at, holds, slot_ok_of, state_ok}
use Rattle.spec.specs.Memory.{state_faults, set_stamp, set_open, set_closed, begin_stripe, add_entry, landed_mask, mark_landed, free_stripe, place_at_of, set_place}
use Rattle.spec.specs.Memory.{compact_at, shown_at, slot_byte, slot_block, set_slot_block, set_slot_parity}
use Rattle.spec.specs.Params.{between, block_sizes, parity_count, data_count, most_with, most_addresses, in_range, record_table, record_widths, spare_len}
use Rattle.spec.specs.Params.{per_footer, footers, capacity, unit_len, zone_len, drive_len, image_len, pointers_len, offline_len, addresses_len, compact_len}
use Rattle.spec.specs.Params.{inflight_len, place_of, place_block, place_zone, place_drive, place_byte, no_drive, named, drives_of, present, absent}
use Rattle.spec.specs.Parity.{parity_rec, parity_piece, encode_block, encode_rec, encode_piece, decode_block, decode_rec, decode_piece}
use Rattle.spec.specs.Rank.{beats, better, best, place_or, cands_of}
use Rattle.spec.specs.Read.{place_faults, lies, found_faults, shown, decode_faults, stored_at, decoded_at, read_piece, lookup, read_answer_of, read_checks}
use Rattle.spec.specs.Read.{read_plan, read_verdict, fill_plan, fill_verdict}
use Rattle.spec.specs.Rebuild.{names_missing, rebuild_checks, rebuilt_zone, insert_segment, by_serial, rebuild_stores, rebuild_verdict}
use Rattle.spec.specs.Reclaim.{places_in, table_faults, segment_places, live_in, flying, victim_of, fewer, fewest, victim, is_none, victim_segment}
use Rattle.spec.specs.Reclaim.{victim_live, idle, reclaim_checks_in, cleared_row, cleared, reset_plan, copy_plan, reclaim_verdict_in}
use Rattle.spec.specs.Restart.{free_zones, free_seg, none_free_of, serials_there, dropped_serials, is_whole, is_ragged, missing_footers, renumbered, moved_pieces}
use Rattle.spec.specs.Restart.{moved_on, moved_stripe, moved_stripes, rewrite_stores, drop_stores, mend_stores, restart_stores, open_of_of, next_of, restart_memory}
use Rattle.spec.specs.Restart.{uncounted_in, report_of, names_drive, rewrites, restart_checks, restart_plan, restart_verdict}
use Rattle.spec.specs.Segments.{low_drive, is_used, serial_in, bearing, lowest_bearing, zone_for, seg_for, leads, gathered, header_at, left_by1, is_copy}
use Rattle.spec.specs.Segments.{remaining, holders, is_place, place_segment, serial_at, open_segments, open_segment, records_in, segment_of, segments, recs_on}
use Rattle.spec.specs.Segments.{offset_on, has_chunk, counts, counted, uncounted, stored_piece, piece_of, put_piece, stored_rec, rec_of, offset_of, cand_of}
use Rattle.spec.specs.Segments.{segment_cands, candidates, address_table, compact_row, row_of, compact_table, greatest_stamp, greatest_serial, unsealed}
use Rattle.spec.specs.Write.{must_open, opens, no_stamp, no_serial, other_group, must_wait, scarce, placed, opened_by, slot_for, begun_by, sending}
use Rattle.spec.specs.Write.{write_checks_in, write_plan, write_verdict_in}
use Rattle.spec_demands.specs.Engines.{call_world, call_lent, view_in, reads_as}
use Rattle.spec_demands.specs.FullFirst.{verdict_in, call_in, unrefused, both_hold, crowded, refused_as_of}
use Rattle.proof_crash_witness.specs.Crowded.{stripe_for, stripe_lands, group_from, filling, lent_then}
use Rattle.proof_crash_witness.specs.Observed.{answer_numbers, seen_numbers, restart_reads, answers_of, reads_of}
use Rattle.proof_crash_witness.specs.Table.{dead, read_as, any_bytes, any_memory, boot, boot_without, disk, first_use, moved, sealed, drive_lost, drive_back, overwritten}
use Rattle.proof_crash_witness.specs.Table.{reclaimed, moved_again, events_in, answers_in, reads_in, table, history}
use Rattle.proof_crash_witness.proofs.Numbers.{pack_from, unpack, unpack_all, packed, unpacked, joined, parted, firm, soft, world_lists, state_from, world_from, mark_lists}
use Rattle.proof_crash_witness.proofs.Numbers.{mark_from, bit, is_one_of, send_lists, sends_from, told_lists, told_in, told_numbers, told_of, told_from}
use Rattle.proof_crash_witness.proofs.Told.{start, heard, tell}

unfoldable pub evaluated : ℕ
unfolding ones ones_in kind values is_refused is_refused_as stamp_told is_cut_of finished be_from be_of to_be le_of to_le part splice xors parity xor_all bytes_of
    widths_of field_at read_field ninth ruled first_refusal decided cut_memory limited outcome padded close_checks close_plan close_verdict empty_checks
    empty_plan empty_verdict are_bytes said_block said_at no_chunk no_zone stored zone_at pointer_at chunk_at chunk_of zone_of drive_of zones_of view_of put_zone
    reset_zone set_zone store_view_of pointer_byte pointer_of set_pointer store_disk store_all is_good good_zones good_count few_good above_narrow list_ok empty_zones
    empty_count no_seg seg_with same_seg zone_on new_seg zones_in sealed_in data_stored blocks_of spares_of record_in record_at footers_of zero_spare header_stores
    footer_stores reset_stores store_count lent_block verdict lent_ok_of call_on call_disk lent_disk lent_memory lent_all left_by call_bytes empty_lent runs fresh
    block_of pointer_faults same_chunk header_fault own_fault bad_name name_clash serial_twice serial_fault outside twice stripe_fault bad_rec stored_bad
    decoded_bad address_fault footers_stored same_blocks_of footer_fault_in footer_fault clashes segment_fault segment_faults image_checks call_of restart_of in_order_of
    swapped before happens only_if orderly restart_in world_after acknowledge forget sent_by acked_by ends_run sent_after untrusted_after marked step
    empty_disk began names_all allowed seen_by seen_at part_at part_len slot_of ready waiting completes seals flight_rec misplaced overfull entry_faults
    land_faults held_cand held_by_of held landed_cand landed_cands pointed land_checks seal_stores writes_in land_store land_plan land_verdict parity_drive data_drive
    data_position is_data parity_position data_drives group in_group_of group_offsets compact_entry header_version header_table header_widths header_len
    header_fields header_block header_serial header_copied header_zone header_zones record_fields record_bytes record_of_of footer_block footer_record up_from below
    all any is_member_of cons_if keep tally is_nil suc_unless index_of flat total greatest least insert_once rising first_or same_list pad_to pieces zipped powers
    only is_in slot_count slots cell idle_state zero_state state_sections section_len section_at state_len numbers_at section_of number_of state_numbers
    section_bytes state_bytes state_of stripe_in filled_in_of landed_in is_write entry_in_of entries_in offset_in is_free is_full is_filling in_flight free_slot
    filling_slot has_filling holds_at holds slot_ok_of state_ok state_faults set_stamp set_open set_closed begin_stripe add_entry landed_mask mark_landed free_stripe
    place_at_of set_place compact_at shown_at slot_byte slot_block set_slot_block set_slot_parity between block_sizes parity_count data_count most_with most_addresses
    in_range record_table record_widths spare_len per_footer footers capacity unit_len zone_len drive_len image_len pointers_len offline_len addresses_len
    compact_len inflight_len place_of place_block place_zone place_drive place_byte no_drive named drives_of present absent parity_rec parity_piece encode_block
    encode_rec encode_piece decode_block decode_rec decode_piece beats better best place_or cands_of place_faults lies found_faults shown decode_faults stored_at
    decoded_at read_piece lookup read_answer_of read_checks read_plan read_verdict fill_plan fill_verdict names_missing rebuild_checks rebuilt_zone insert_segment
    by_serial rebuild_stores rebuild_verdict places_in table_faults segment_places live_in flying victim_of fewer fewest victim is_none victim_segment
    victim_live idle reclaim_checks_in cleared_row cleared reset_plan copy_plan reclaim_verdict_in free_zones free_seg none_free_of serials_there dropped_serials
    is_whole is_ragged missing_footers renumbered moved_pieces moved_on moved_stripe moved_stripes rewrite_stores drop_stores mend_stores restart_stores open_of_of
    next_of restart_memory uncounted_in report_of names_drive rewrites restart_checks restart_plan restart_verdict low_drive is_used serial_in bearing
    lowest_bearing zone_for seg_for leads gathered header_at left_by1 is_copy remaining holders is_place place_segment serial_at open_segments open_segment
    records_in segment_of segments recs_on offset_on has_chunk counts counted uncounted stored_piece piece_of put_piece stored_rec rec_of offset_of cand_of
    segment_cands candidates address_table compact_row row_of compact_table greatest_stamp greatest_serial unsealed must_open opens no_stamp no_serial
    other_group must_wait scarce placed opened_by slot_for begun_by sending write_checks_in write_plan write_verdict_in call_world call_lent view_in reads_as
    verdict_in call_in unrefused both_hold crowded refused_as_of stripe_for stripe_lands group_from filling lent_then answer_numbers seen_numbers restart_reads
    answers_of reads_of dead read_as any_bytes any_memory boot boot_without disk first_use moved sealed drive_lost drive_back overwritten reclaimed moved_again
    events_in answers_in reads_in table history pack_from unpack unpack_all packed unpacked joined parted firm soft world_lists state_from world_from
    mark_lists mark_from bit is_one_of send_lists sends_from told_lists told_in told_numbers told_of told_from start heard tell
evaluated = 0
