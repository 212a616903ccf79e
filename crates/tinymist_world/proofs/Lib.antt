mod Mapped
