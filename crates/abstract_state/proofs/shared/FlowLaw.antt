-- Every instruction leads where its flow says.
use Rattle.abstract_state.specs.Soundness.{FlowIsSound}
use Rattle.abstract_state.proofs.shared.FlowSteps.{flow_follows}
use Rattle.abstract_state.proofs.Loading.{load_sound}
use Rattle.abstract_state.proofs.SignedLoading.{signed_load_sound}
use Rattle.abstract_state.proofs.Storing.{store_sound, store_register_sound}
use Rattle.abstract_state.proofs.CellWriting.{atomic_sound}
use Rattle.abstract_state.proofs.Addressing.{address_sound}
use Rattle.abstract_state.proofs.Calling.{call_sound}

pub flow_sound : FlowIsSound
flow_sound program held state machine insn flow shaped a sizes fits forward e =
    flow_follows program held state machine insn flow (record {
      load = λ size dst src offset h. load_sound program held state machine size dst src offset flow a h;
      signed_load = λ extension dst src offset h. signed_load_sound program held state machine extension dst src offset flow a h;
      store = λ size dst offset immediate fits h. store_sound program held state machine size dst offset immediate flow fits shaped.eight a h;
      store_register = λ size dst src offset h. store_register_sound program held state machine size dst src offset flow shaped.eight a h;
      atomic = λ width op dst src offset h. atomic_sound program held state machine width op dst src offset flow a h;
      address = λ dst map offset h. address_sound program held state machine dst map offset flow a sizes h;
      call = λ number h. call_sound program held state machine number flow a h;
    }) a sizes fits forward e
