-- What is known of a client's streams at each stage. No public clause cites this module.
use Rattle.std.specs.Prelude.{ℕ, List, [], Option, Some, None}
use Rattle.std.specs.Io.Buffered.{reader_remaining, writer_contents}
use Rattle.qtext_client.specs.declared.connection.Stage.{Stage}
use Rattle.qtext_client.specs.declared.connection.Stage.TheVariants.{New, Open, Ended}
use Rattle.qtext_client.specs.Wires.{Wire}

-- what is known of streams: of those that are not open yet what their input will say, and of those that were let go of
-- what their output took
abbrev pub wire_at : {S I O : Type 0} → (says took : S → Option (List ℕ)) → (remaining : I → Option (List ℕ))
    → (contents : O → Option (List ℕ)) → S → Stage I O → Wire
wire_at says took remaining contents streams New = record { hears = says streams; wrote = Some []; end = None }
wire_at says took remaining contents streams (Open both) = record {
  hears = reader_remaining remaining both.input;
  wrote = writer_contents contents both.output;
  end = None;
}
wire_at says took remaining contents streams (Ended end) = record {
  hears = Some [];
  wrote = took streams;
  end = Some end;
}
