-- A sink in memory: what it holds, and what a put makes of it.
use Rattle.std.specs.Prelude.{ℕ, ◌+◌, ◌-◌, List, [], ◌++◌, take, length, Bool, not, ◌&&◌, ◌==◌, nat_le, if◌then◌else◌}
use Rattle.std.specs.List.{list_any}
use Rattle.io_edge.specs.Faults.{next_count}

-- `failing` are the puts that are to fail, by their positions from 0 on, and `calls` is the position of the next put
pub record SinkState : Type 0 where
  pub held : List ℕ
  pub room : ℕ
  pub failing : List ℕ
  pub calls : ℕ
  pub faults : ℕ

-- the sink that holds nothing, with this room, of which no put is to fail
abbrev pub empty_sink : ℕ → SinkState
empty_sink room = record { held = []; room = room; failing = []; calls = 0; faults = 0 }

-- whether the next put is to fail
abbrev pub is_to_fail : SinkState → Bool
is_to_fail sink = list_any (λ position. position == sink.calls) sink.failing

-- what the sink takes of a piece: nothing at a put that is to fail, else as much as there is room for
abbrev pub taken_of : SinkState → List ℕ → List ℕ
taken_of sink piece = if is_to_fail sink then [] else take (sink.room - length sink.held) piece

-- whether the sink takes all of a piece
abbrev pub takes_all : SinkState → List ℕ → Bool
takes_all sink piece = not (is_to_fail sink) && nat_le (length sink.held + length piece) sink.room

-- the sink after a put: it holds what it took, and a put that did not take all is a fault
abbrev pub after_put : SinkState → List ℕ → SinkState
after_put sink piece =
    record sink {
      held = sink.held ++ taken_of sink piece;
      calls = next_count sink.calls;
      faults = if takes_all sink piece then sink.faults else next_count sink.faults;
    }
