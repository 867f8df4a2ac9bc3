-- The whole definition opened: a computed example says `unfolding opened_desk` for this list.
use Rattle.sizes.specs.Words.{ceil}
use Rattle.sizes.specs.Partition.{symbols_of, split, partition_of, symbols_in, first_symbol, block_start, block_size, fits, reach, block_length}
use Rattle.sizes.specs.Toi.{skip_zero, cut_to, first_toi, after, free_from, next_toi}
use Rattle.lifecycle.specs.Parts.{shares, past_store}
use Rattle.lifecycle.specs.Lifecycle.{started, finished, announced, triggered, expired, is_last, round_due, may_start, may_stop, tick_of, paced, too_early}
use Rattle.lifecycle.specs.Setup.{sound_sizes, bad_blocks, sound}
use Rattle.lifecycle.specs.Fdt.{fdt_parts, bad_fdt_part, queued, runs_out, needs_new, takes_draft, republished, front_taken, with_current, start_current, next_fdt, fdt_done}
use Rattle.definition.specs.Encoder.{drained, fill, wrapped, emptied, without, advanced, nothing_left, symbol_of, visit, stopping, read}
use Rattle.definition.specs.FdtSession.{fdt_published, fdt_sent, fdt_in_hand_or_next, fdt_round_with, fdt_round, fdt_run}
use Rattle.definition.specs.Session.{startable, begin, put_back, forced, sent, in_hand_or_next, round_with, round, file_run}
use Rattle.definition.specs.Desk.{opening, set_up, in_hands, objects, numbers, is, listed_in_hands, listed_as, moved, numbered, with_fdt, in_hand, marked, marked_hand, all_published, reserved, unloosed, toi_for, own_sizes, made, admitted, no_session, bad_object_part, not_loose, full, no_room, reserve_refusal, release_refusal, add_refusal, publish_refusal, draft_of, draft_refusal, fdt_queued, ran, fdt_ran, step, run, touched_waiting, touched_hand, touched}

unfoldable pub opened_sizes : Unit {0}
unfolding ceil symbols_of split partition_of symbols_in first_symbol block_start block_size fits reach block_length skip_zero cut_to first_toi after free_from next_toi
opened_sizes = tt

unfoldable pub opened_life : Unit {0}
unfolding opened_sizes shares past_store started finished announced triggered expired is_last round_due may_start may_stop tick_of paced too_early sound_sizes bad_blocks sound fdt_parts bad_fdt_part queued runs_out needs_new takes_draft republished front_taken with_current start_current next_fdt fdt_done
opened_life = tt

unfoldable pub opened_encoder : Unit {0}
unfolding opened_sizes drained fill wrapped emptied without advanced nothing_left symbol_of visit stopping read
opened_encoder = tt

unfoldable pub opened_desk : Unit {0}
unfolding opened_life opened_encoder fdt_published fdt_sent fdt_in_hand_or_next fdt_round_with fdt_round fdt_run startable begin put_back forced sent in_hand_or_next round_with round file_run opening set_up in_hands objects numbers is listed_in_hands listed_as moved numbered with_fdt in_hand marked marked_hand all_published touched_waiting touched_hand touched reserved unloosed toi_for own_sizes made admitted no_session bad_object_part not_loose full no_room reserve_refusal release_refusal add_refusal publish_refusal draft_of draft_refusal fdt_queued ran fdt_ran step run
opened_desk = tt
