use Rattle.session_answers.proofs.host_threads.host_seats.Goals as goal
use denote.Param.Send.{sendable}

pub scoped-requires : goal.scoped-requires
scoped-requires g c = record {
  at = λ a. (
    c.requires.seats,
    (
      c.requires.passes,
      (
        c.requires.room,
        (
          (let b = c.type_bounds.send-L in search sendable depth 20),
          (let b = c.type_bounds.send-K in search sendable depth 20),
          (let b = c.type_bounds.send-D-Reader in search sendable depth 20),
          (let b = c.type_bounds.send-D-Writer in search sendable depth 20),
          (let b = c.type_bounds.send-D-Receipt in search sendable depth 20),
          (let b = c.type_bounds.send-D-Pass in search sendable depth 20),
          (let b = c.type_bounds.send-K-Pending in search sendable depth 20),
          (let b = c.type_bounds.send-K-Recorder in search sendable depth 20),
          (let b = c.type_bounds.sync-L in search sendable depth 20),
          (let b = c.type_bounds.sync-R in search sendable depth 20),
          (let b = c.type_bounds.sync-D in search sendable depth 20),
        ),
      ),
    ),
  );
}
