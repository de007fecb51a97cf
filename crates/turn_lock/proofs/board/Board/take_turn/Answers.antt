use Rattle.std.proofs.Common.{◌∷◌, [], Some, refl, ap, ◌∙◌}
use Rattle.turn_lock.specs.Steps.{SeatState}
use Rattle.turn_lock.proofs.TurnLemmas.{Taken, adds, after_raise, may_fail, after_fail, ready, ran, origin_is, reserved_is, sealed_is}
use Rattle.turn_lock.proofs.board.Board.take_turn.Goals as goal

pub raise-requires-clause-adds : goal.raise-requires-clause-adds
raise-requires-clause-adds g c _ _ =
    let M = g.B.Booked.means in
    let T : Taken g.B.Booked.means (g.O.Turn.changes c.args.turn) g.O.Turn.grows g.O.Turn.fails (g.O.Turn.asks c.args.turn) c.args.seat.now.me.0 c.enter-book.ensures.holds.0 c.enter-book.result.1 c.enter-book.result.0 c.take-reply.new.book c.take-reply.result c.grew.result (g.O.Turn.fails c.take-reply.result) = record {
      found = c.enter-book.ensures.found;
      related = c.take-reply.ensures.changes;
      fix = c.take-reply.ensures.fixed;
      keeps = c.take-reply.ensures.sound;
      same = c.take-reply.ensures.reports;
      grew = c.take-reply.ensures.log;
      up = c.take-reply.ensures.faults;
      rose = c.take-reply.ensures.failed;
      mine = c.requires.owned;
      g_is = c.grew.ensures;
      h_is = refl;
    } in
    let here = c.put_in.ensures.put ∙ ap (λ (m : SeatState g.row.B.Denot g.row.B-Entry.Denot). (m.0, (0, Some c.take-reply.new.book) ∷ [])) c.enter-book.ensures.holds.1 in
    adds M T c.put_in.new.seat.me here

pub fail-requires-clause-fails : goal.fail-requires-clause-fails
fail-requires-clause-fails g c _ _ =
    let M = g.B.Booked.means in
    let T : Taken g.B.Booked.means (g.O.Turn.changes c.args.turn) g.O.Turn.grows g.O.Turn.fails (g.O.Turn.asks c.args.turn) c.args.seat.now.me.0 c.enter-book.ensures.holds.0 c.enter-book.result.1 c.enter-book.result.0 c.take-reply.new.book c.take-reply.result c.grew.result c.failed.result = record {
      found = c.enter-book.ensures.found;
      related = c.take-reply.ensures.changes;
      fix = c.take-reply.ensures.fixed;
      keeps = c.take-reply.ensures.sound;
      same = c.take-reply.ensures.reports;
      grew = c.take-reply.ensures.log;
      up = c.take-reply.ensures.faults;
      rose = c.take-reply.ensures.failed;
      mine = c.requires.owned;
      g_is = c.grew.ensures;
      h_is = c.failed.ensures;
    } in
    let here = c.put_in.ensures.put ∙ ap (λ (m : SeatState g.row.B.Denot g.row.B-Entry.Denot). (m.0, (0, Some c.take-reply.new.book) ∷ [])) c.enter-book.ensures.holds.1 in
    let one = after_raise M T c.put_in.new.seat.me c.raise.new.seat.me here c.raise.ensures.raised in
    may_fail M T c.raise.new.seat.me one

pub hand_on-requires-clause-ready : goal.hand_on-requires-clause-ready
hand_on-requires-clause-ready g c _ _ =
    let M = g.B.Booked.means in
    let T : Taken g.B.Booked.means (g.O.Turn.changes c.args.turn) g.O.Turn.grows g.O.Turn.fails (g.O.Turn.asks c.args.turn) c.args.seat.now.me.0 c.enter-book.ensures.holds.0 c.enter-book.result.1 c.enter-book.result.0 c.take-reply.new.book c.take-reply.result c.grew.result c.failed.result = record {
      found = c.enter-book.ensures.found;
      related = c.take-reply.ensures.changes;
      fix = c.take-reply.ensures.fixed;
      keeps = c.take-reply.ensures.sound;
      same = c.take-reply.ensures.reports;
      grew = c.take-reply.ensures.log;
      up = c.take-reply.ensures.faults;
      rose = c.take-reply.ensures.failed;
      mine = c.requires.owned;
      g_is = c.grew.ensures;
      h_is = c.failed.ensures;
    } in
    let here = c.put_in.ensures.put ∙ ap (λ (m : SeatState g.row.B.Denot g.row.B-Entry.Denot). (m.0, (0, Some c.take-reply.new.book) ∷ [])) c.enter-book.ensures.holds.1 in
    let one = after_raise M T c.put_in.new.seat.me c.raise.new.seat.me here c.raise.ensures.raised in
    let two = after_fail M T c.raise.new.seat.me c.fail.new.seat.me one c.fail.ensures.counted_failure in
    ready M T c.fail.new.seat.me two

pub returns : goal.returns
returns g c =
    let M = g.B.Booked.means in
    let T : Taken g.B.Booked.means (g.O.Turn.changes c.args.turn) g.O.Turn.grows g.O.Turn.fails (g.O.Turn.asks c.args.turn) c.args.seat.now.me.0 c.enter-book.ensures.holds.0 c.enter-book.result.1 c.enter-book.result.0 c.take-reply.new.book c.take-reply.result c.grew.result c.failed.result = record {
      found = c.enter-book.ensures.found;
      related = c.take-reply.ensures.changes;
      fix = c.take-reply.ensures.fixed;
      keeps = c.take-reply.ensures.sound;
      same = c.take-reply.ensures.reports;
      grew = c.take-reply.ensures.log;
      up = c.take-reply.ensures.faults;
      rose = c.take-reply.ensures.failed;
      mine = c.requires.owned;
      g_is = c.grew.ensures;
      h_is = c.failed.ensures;
    } in
    let here = c.put_in.ensures.put ∙ ap (λ (m : SeatState g.row.B.Denot g.row.B-Entry.Denot). (m.0, (0, Some c.take-reply.new.book) ∷ [])) c.enter-book.ensures.holds.1 in
    let one = after_raise M T c.put_in.new.seat.me c.raise.new.seat.me here c.raise.ensures.raised in
    let two = after_fail M T c.raise.new.seat.me c.fail.new.seat.me one c.fail.ensures.counted_failure in
    let rests = c.hand_on.ensures.rests in record {
      same = c.hand_on.ensures.same ∙ (c.fail.ensures.same ∙ (c.raise.ensures.same ∙ (c.put_in.ensures.same ∙ c.enter-book.ensures.same)));
      ran = ran M T c.args.seat.now.table_id c.hand_on.new.seat.table_id c.fail.new.seat.me c.hand_on.new.seat.me.0 two c.hand_on.ensures.own (λ i. (rests i).0);
      rests = (
        (λ i. (rests i).1),
        (λ i. (rests i).0.ticket),
        (λ i. (rests i).0.has_turn),
        (λ i. (rests i).0.note),
        (c.requires.rests.4.0, (λ i. (rests i).0.origin) ∙ (origin_is M T c.fail.new.seat.me two ∙ c.requires.rests.4.1)),
      );
      numbers = ((λ i. (rests i).0.reserved) ∙ reserved_is M T c.fail.new.seat.me two, (λ i. (rests i).0.sealed) ∙ sealed_is M T c.fail.new.seat.me two);
    }
